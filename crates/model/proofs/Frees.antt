-- What becomes free by changes of one disk, by rising slot.
use Rattle.std.proofs.lemmas.Bool.Decides.{nat_tests}
use Rattle.std.proofs.Common.{◌≡◌, ℕ, suc, ◌<◌, ◌≤◌, true, List, [], ◌∷◌, ◌++◌, length, set, refl, ap, ◌∙◌, arith}
use Rattle.std.proofs.lemmas.List.{get_or-set_same, length-set}
use Rattle.std.proofs.lemmas.Bool.{and_parts, leb-true, ltb-true}
use Rattle.rules.specs.Limits.{most_slots}
use Rattle.model.specs.Blocks.{frees, usable}
use Rattle.model.specs.Maps.{Map, look_in, set_in, shown_in, shown_by, rising, slots_rise}
use Rattle.model.specs.Sound.{young, own_in, Sound}
use Rattle.model.specs.Steps.{Change, leaving, showing, slot_for, change_at, changes_at, freed_at}
use Rattle.model.specs.Sums.{sum}
use Rattle.model.specs.Tests.{front, writes, written}
use Rattle.model.specs.Volume.{Hold, Disk, Volume, blank, disk_at, last_of, since, moment_last}
use Rattle.model.specs.declared.types.Ptr.{Ptr}
use Rattle.model.specs.declared.types.Slot.{Slot}
use Rattle.model.specs.declared.types.Slot.TheVariants.{Empty}
use Rattle.model.proofs.Lines.{present-rises}
use Rattle.model.proofs.Maps.{rise-parts, rise-from, rise-none, rise-set, look-other, sum-remove}
use Rattle.model.proofs.Moves.{Moved, moved-both, not-moved, table-moved}
use Rattle.model.proofs.Steps.{change-usable, change-used, change-sound, change-there, change-leaves, slots_of}
use Rattle.model.proofs.Sums.{sum-append, sum-frees}
use Rattle.model.proofs.Tables.{InUse}
use Rattle.model.proofs.Volumes.{own-used, disk-ok}

-- CHANGES BY RISING SLOT: what becomes free is what the disk showed before all of them
freed_over : ℕ → List Change → Map → List Ptr
freed_over k [] m = []
freed_over k (c ∷ cs) m = frees k (shown_in (look_in c.slot m)) ++ freed_over k cs m

over-set : (k n s : ℕ) (x : Slot) (cs : List Change) (m : Map) → s < n → slots_rise m ≡ true → rising most_slots n (slots_of cs) ≡ true → freed_over k cs (set_in s x m) ≡ freed_over k cs m
unfolding freed_over
over-set k n s x [] m lt rises h = refl
over-set k n s x (c ∷ cs) m lt rises h =
    let p = rise-parts most_slots n c.slot (slots_of cs) h in
    let again = over-set k (suc c.slot) s x cs m (omega (arith, p.0)) rises p.2 in
    let here : look_in c.slot (set_in s x m) ≡ look_in c.slot m = look-other c.slot s x m (λ e. omega (arith, p.0)) rises in
    rw (here, again)

over-within : (k n : ℕ) (cs : List Change) (m : Map) → slots_rise m ≡ true → rising most_slots n (slots_of cs) ≡ true → (w : Ptr → ℕ) → sum w (freed_over k cs m) ≤ sum (young k w) (shown_by m)
unfolding freed_over
over-within k n [] m rises h w = omega arith
over-within k n (c ∷ cs) m rises h w =
    let p = rise-parts most_slots n c.slot (slots_of cs) h in
    let l = shown_in (look_in c.slot m) in
    let r = rise-set c.slot Empty m p.1 rises in
    let same : sum w (freed_over k cs (set_in c.slot Empty m)) ≡ sum w (freed_over k cs m) = ap (sum w) (over-set k (suc c.slot) c.slot Empty cs m (omega arith) rises p.2) in
    omega (
      arith,
      sum-append w (frees k l) (freed_over k cs m),
      sum-frees w k l,
      sum-remove (young k w) c.slot m,
      over-within k (suc c.slot) cs (set_in c.slot Empty m) r p.2 w,
      same,
    )

-- the disk that is changed
pub disk-after : (i : ℕ) (d : Disk) (ds : List Disk) → i < length ds → disk_at i (set ds i d) ≡ d
disk-after i d ds lt = get_or-set_same ds i d blank lt

freed-over : (i n : ℕ) (cs : List Change) (v : Volume) → i < length v.disks → slots_rise (disk_at i v.disks).shows ≡ true → rising most_slots n (slots_of cs) ≡ true →
    freed_at i cs v ≡ freed_over (moment_last (disk_at i v.disks)) cs (disk_at i v.disks).shows
unfolding freed_over
freed-over i n [] v lt rises h = refl
freed-over i n (c ∷ cs) v lt rises h =
    let p = rise-parts most_slots n c.slot (slots_of cs) h in
    let d = disk_at i v.disks in
    let x = slot_for c.bytes v in
    let v1 = change_at i c v in
    let e : disk_at i v1.disks ≡ showing c.slot x d = disk-after i (showing c.slot x d) v.disks lt in
    let lt1 : i < length v1.disks = rw (length-set v.disks i (showing c.slot x d)) lt in
    let r1 : slots_rise (disk_at i v1.disks).shows ≡ true = rw e (rise-set c.slot x d.shows p.1 rises) in
    let again = freed-over i (suc c.slot) cs v1 lt1 r1 p.2 in
    let like : freed_over (moment_last (disk_at i v1.disks)) cs (disk_at i v1.disks).shows ≡ freed_over (moment_last d) cs (set_in c.slot x d.shows) = ap (λ (y : Disk). freed_over (moment_last y) cs y.shows) e in
    ap (λ l. frees (moment_last d) (leaving c.slot d) ++ l) (again ∙ like ∙ over-set (moment_last d) (suc c.slot) c.slot x cs d.shows (omega arith) rises p.2)

own-present : (w : Ptr → ℕ) (k : ℕ) (hs : List Hold) (m : Map) → sum (young (last_of k hs) w) (shown_by m) ≤ own_in w k hs m
own-present w k [] m = omega arith
own-present w k (h ∷ hs) m = omega (arith, own-present w h.moment hs m)

module _ (i : ℕ) where
  pub freed-used : (n : ℕ) (cs : List Change) (v : Volume) → Sound v → i < length v.disks → rising most_slots n (slots_of cs) ≡ true → InUse (freed_at i cs v) v.uses
  freed-used n cs v inv lt h =
      let d = disk_at i v.disks in
      let rises = present-rises v.moment v.names _ _ d.holds d.shows d.gone (disk-ok v inv i lt).line in
      own-used v inv i lt (freed_at i cs v)
      (λ w. omega (arith, ap (sum w) (freed-over i n cs v lt rises h), over-within (moment_last d) n cs d.shows rises h w, own-present w (since d.from) d.holds d.shows))

  -- the blocks that they take
  abbrev pub taken_by : List Change → Volume → List Ptr
  taken_by [] v = []
  taken_by (c ∷ cs) v = shown_in (slot_for c.bytes v) ++ taken_by cs (change_at i c v)

  pub changes-moved : (n : ℕ) (cs : List Change) (v : Volume) → Sound v → i < length v.disks → rising most_slots n (slots_of cs) ≡ true → writes cs ≤ usable v.uses →
      Moved v.uses (changes_at i cs v).uses (freed_at i cs v) (taken_by cs v)
  changes-moved n [] v inv lt h enough = not-moved v.uses
  changes-moved n (c ∷ cs) v inv lt h enough =
      let p = rise-parts most_slots n c.slot (slots_of cs) h in
      let here : written c.bytes ≤ usable v.uses = omega arith in
      let d = disk_at i v.disks in
      let v1 = change_at i c v in
      let one = table-moved (slot_for c.bytes v) (frees (moment_last d) (leaving c.slot d)) v.uses (change-usable i c v inv lt here) (change-used i c v inv lt here) in
      let more = changes-moved (suc c.slot) cs v1 (change-sound i c v inv lt here p.1) (change-there i c v inv lt here) p.2 (omega (arith, change-leaves i c v inv lt here)) in
      moved-both v.uses v1.uses (changes_at i cs v1).uses (frees (moment_last d) (leaving c.slot d)) (freed_at i cs v1) (shown_in (slot_for c.bytes v)) (taken_by cs v1) one more (freed-used n (c ∷ cs) v inv lt h)

-- the front of a stream rises
pub front-rises : (n : ℕ) (cs : List Change) → rising most_slots n (slots_of (front n cs)) ≡ true
unfolding front
front-rises n [] = rise-none most_slots n
front-rises n (c ∷ cs) = let again = front-rises (suc c.slot) cs in grind (arith, nat_tests, and_parts, leb-true, ltb-true, rise-from, rise-none)
