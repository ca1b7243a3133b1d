-- What was written is read, and everything else reads as before.
use Rattle.std.proofs.lemmas.Bool.Decides.{nat_tests}
use Rattle.std.proofs.Common.{◌≡◌, ℕ, suc, ◌<◌, true, cond, List, [], ◌∷◌, length, set, Some, None, Ok, Err, Option, Result, sym, refl, ap, ◌∙◌, subst, ⊎_elim, arith}
use Rattle.std.specs.List.{AllByRecursion}
use Rattle.std.proofs.lemmas.Bool.{or_parts, cases_eq, eq-eqb, lt-leb}
use Rattle.rules.specs.Limits.{most_slots}
use Rattle.rules.specs.declared.refusal.Refusal.{Refusal}
use Rattle.rules.specs.declared.refusal.Refusal.TheVariants.{Missing}
use Rattle.model.specs.Blocks.{lowest_in, used_at}
use Rattle.model.specs.Calls.{Call, write, clear, hold, release, copy, new, drop, take, sync, done, name, Done, ask}
use Rattle.model.specs.Exactly.{by_disk, by_hold}
use Rattle.model.specs.Holds.{Past, find}
use Rattle.model.specs.Maps.{Map, look_in, set_in, slots_rise}
use Rattle.model.specs.Reads.{read_by, reads, reads_hold, zeros, Leaves, ReadsRight}
use Rattle.model.specs.Runs.{reasons, refusal, does, step}
use Rattle.model.specs.Sound.{Sound}
use Rattle.model.specs.Steps.{change}
use Rattle.model.specs.Steps.{Change, slot_for, showing, change_at, changes_at, holds_at, hold_of, held, fresh, origin_of}
use Rattle.model.specs.Store.{Bytes, laid, Store, play, stored, bytes_of}
use Rattle.model.specs.Tests.{no_slot, front}
use Rattle.model.specs.Volume.{Disk, Volume, blank, disk_at, place_of, holder_of, hold_named}
use Rattle.model.specs.declared.types.HoldHead.{HoldHead}
use Rattle.model.specs.declared.types.Mark.{Mark}
use Rattle.model.specs.declared.types.Ptr.{Ptr}
use Rattle.model.specs.declared.types.Slot.{Slot}
use Rattle.model.specs.declared.types.Slot.TheVariants.{At}
use Rattle.model.proofs.Disks.{disk-there, disk-name, holder-there, find-named, mem-at}
use Rattle.model.proofs.Lines.{present-rises}
use Rattle.model.proofs.Maps.{rise-set, look_none, look-set, look-other}
use Rattle.model.proofs.Names.{named-next}
use Rattle.model.proofs.Seen.{map_in, seen, answer_of, shown_of, read-seen, readhold-seen, seen_same, seen_other, seen-set, place_set, seen-map, seen-push, seen-new, seen-removed, find-new, seen-there}
use Rattle.model.proofs.Shows.{shown-used}
use Rattle.model.proofs.Stays.{step-finds, found_in, found_below, used-bytes, stored-sound}
use Rattle.model.proofs.Steps.{NoneApplies, none-applies, by-step, slot_small, changes-there, front-small}
use Rattle.model.proofs.Told.{was-done, done-step}
use Rattle.model.proofs.Volumes.{unnamed, disk-ok}

-- A READ of a map
abbrev read_map : Bytes → Option Map → ℕ → Result (List ℕ) Refusal
read_map f m j = read_by f (answer_of m j)

reads-map : (y j : ℕ) (t : Store) → reads y j t ≡ read_map t.bytes (seen y t.volume.disks) j
reads-map y j t = ap (read_by t.bytes) (read-seen y j t.volume)

reads_hold-map : (x j : ℕ) (t : Store) → reads_hold x j t ≡ read_map t.bytes (shown_of (find x t.volume.disks)) j
reads_hold-map x j t = ap (read_by t.bytes) (readhold-seen x j t.volume)

read-in : (f : Bytes) (m : Map) (j : ℕ) → j < most_slots → read_map f (Some m) j ≡ Ok (bytes_of f (look_in j m))
read-in f m j lt = rw (lt-leb most_slots j lt)

same_bytes : (f g : Bytes) (x : Slot) → ((p : Ptr) → x ≡ At p → g p.block ≡ f p.block) → bytes_of g x ≡ bytes_of f x
same_bytes f g x h = grind (arith, nat_tests)

-- two maps, with two devices' bytes, that read the same in a slot
read_same : (f g : Bytes) (m n : Map) (j : ℕ) → look_in j n ≡ look_in j m → ((p : Ptr) → look_in j m ≡ At p → g p.block ≡ f p.block) → read_map g (Some n) j ≡ read_map f (Some m) j
read_same f g m n j e h = grind (arith, nat_tests)

err≢ok : {X : Type 0} (r : Refusal) (a : X) → ◌≡◌ {A = Result X Refusal} (Err r) (Ok a) → ⊥
err≢ok r a e = cc

-- a read that is answered read a map
some-map : (f : Bytes) (m : Option Map) (j : ℕ) (bs : List ℕ) → read_map f m j ≡ Ok bs → (n : Map) × (m ≡ Some n)
some-map f m j bs e = grind (arith, nat_tests)

-- WHAT A DISK SHOWS in a slot that calls leave alone
pub record Kept (y j : ℕ) (m : Map) (ds : List Disk) : Type 0 where
  pub now : Map
  pub there : seen y ds ≡ Some now
  pub same : look_in j now ≡ look_in j m

-- a disk's map has rising slots
pub map-rises : (v : Volume) → Sound v → (y : ℕ) (m : Map) → seen y v.disks ≡ Some m → slots_rise m ≡ true
map-rises v inv y m e =
    let r = seen-map y v.disks m e in
    let d = disk_at (place_of y v.disks) v.disks in
    subst (λ (n : Map). slots_rise n ≡ true) r.1 (present-rises v.moment v.names _ _ d.holds d.shows d.gone (disk-ok v inv (place_of y v.disks) r.0).line)

-- changes of the disk of a name x
changes-kept : (x y j : ℕ) (cs : List Change) (v : Volume) (m : Map) (i : ℕ) → i ≡ place_of x v.disks → i < length v.disks → AllByRecursion (λ c. c.slot < most_slots) cs → (x ≡ y → AllByRecursion (λ c. c.slot ≡ j → ⊥) cs) → slots_rise m ≡ true →
    seen y v.disks ≡ Some m → Kept y j m (changes_at i cs v).disks
changes-kept x y j [] v m i e lt small leaves rises s = record { now = m; there = s; same = refl }
changes-kept x y j (c ∷ cs) v m i e lt small leaves rises s =
    let ds = v.disks in
    let d = disk_at i ds in
    let z = slot_for c.bytes v in
    let d' = showing c.slot z d in
    let v1 = change_at i c v in
    let e1 : i ≡ place_of x v1.disks = e ∙ sym (place_set x ds i d' refl) in
    let lt1 : i < length v1.disks = rw (changes-there i (c ∷ []) v) lt in
    let n : d.name ≡ x = ap (λ k. (disk_at k ds).name) e ∙ disk-name x ds (rw (← e) lt) in
    ⊎_elim
    (λ (q : x ≡ y).
    let s' : seen y v1.disks ≡ Some (set_in c.slot z d.shows) = ap (λ k. seen y (set ds k d')) (e ∙ ap (λ w. place_of w ds) q) ∙ seen-set map_in y ds d' (rw (← q, ← e) lt) (n ∙ q) in
    let r = seen-map y ds m s in
    let dm : d.shows ≡ m = ap (λ k. (disk_at k ds).shows) (e ∙ ap (λ w. place_of w ds) q) ∙ r.1 in
    let rd : slots_rise d.shows ≡ true = rw dm rises in
    let again = changes-kept x y j cs v1 (set_in c.slot z d.shows) i e1 lt1 small.1 (λ w. (leaves w).1) (rise-set c.slot z d.shows small.0 rd) s' in
    record { now = again.now; there = again.there; same = again.same ∙ look-other j c.slot z d.shows (λ w. (leaves q).0 (sym w)) rd ∙ ap (look_in j) dm })
    (λ (q : x ≡ y → ⊥).
    let s' : seen y v1.disks ≡ Some m = seen_other map_in y ds i d' refl (λ w. q (sym n ∙ w)) ∙ s in
    changes-kept x y j cs v1 m i e1 lt1 small.1 (λ w. (leaves w).1) rises s')
    (cases_eq x y)

hold-seen : (i : ℕ) (m : Option Mark) (v : Volume) (y : ℕ) → seen y (holds_at i m v).disks ≡ seen y v.disks
hold-seen i m v y = seen_same map_in y v.disks i (held (record { name = v.names; moment = v.moment }) m (disk_at i v.disks)) refl refl

all-front : (P : Change → Type 0) (n : ℕ) (cs : List Change) → AllByRecursion P cs → AllByRecursion P (front n cs)
unfolding front
all-front P n [] a = tt
all-front P n (c ∷ cs) a = let again = all-front P (suc c.slot) cs a.1 in grind (arith, nat_tests)

does-kept : (c : Call) (v : Volume) (y j : ℕ) (m : Map) → Sound v → NoneApplies (reasons c v) → Leaves c y j → seen y v.disks ≡ Some m → Kept y j m (does c v).leaves.disks
does-kept (write d s bs) v y j m inv no' l e =
    let a = or_parts _ (no_slot s) no'.0 in
    changes-kept d y j (change s (Some bs) ∷ []) v m (place_of d v.disks) refl (disk-there d v.disks a.0) (slot_small s a.1, tt) (λ q. (l q, tt)) (map-rises v inv y m e) e
does-kept (clear d s) v y j m inv no' l e =
    let a = or_parts _ (no_slot s) no'.0 in
    changes-kept d y j (change s None ∷ []) v m (place_of d v.disks) refl (disk-there d v.disks a.0) (slot_small s a.1, tt) (λ q. (l q, tt)) (map-rises v inv y m e) e
does-kept (hold d) v y j m inv no' l e = record { now = m; there = hold-seen (place_of d v.disks) _ v y ∙ e; same = refl }
does-kept (release h) v y j m inv no' l e = record { now = m; there = seen_same map_in y v.disks (holder_of h v.disks) _ refl refl ∙ e; same = refl }
does-kept (copy h) v y j m inv no' l e = record { now = m; there = seen-push map_in y v.disks _ m e; same = refl }
does-kept new v y j m inv no' l e = record { now = m; there = seen-push map_in y v.disks _ m e; same = refl }
does-kept (drop d) v y j m inv no' l e = record { now = m; there = seen-removed map_in y d v.disks l (disk-there d v.disks no'.0) ∙ e; same = refl }
does-kept (take d st) v y j m inv no' l e =
    let i = place_of d v.disks in
    let cs = front 0 st.changes in
    let r = changes-kept d y j cs v m i refl (disk-there d v.disks no'.0) (front-small 0 st.changes) (λ q. all-front (λ c. c.slot ≡ j → ⊥) 0 st.changes (l q)) (map-rises v inv y m e) e in
    record { now = r.now; there = hold-seen i (Some st.newer) (changes_at i cs v) y ∙ r.there; same = r.same }
does-kept sync v y j m inv no' l e = record { now = m; there = e; same = refl }
does-kept (ask q) v y j m inv no' l e = record { now = m; there = e; same = refl }

step_kept : (c : Call) (v : Volume) (y j : ℕ) (m : Map) → Sound v → Leaves c y j → seen y v.disks ≡ Some m → Kept y j m (step c v).leaves.disks
step_kept c v y j m inv l e = by-step (λ x. Kept y j m x.leaves.disks) c v (λ r _. record { now = m; there = e; same = refl }) (λ no'. does-kept c v y j m inv no' l e)

-- a block that a disk's map shows is in use
pub seen-used : (v : Volume) → Sound v → (y : ℕ) (m : Map) → seen y v.disks ≡ Some m → (j : ℕ) (p : Ptr) → look_in j m ≡ At p → used_at p.block v.uses ≡ true
seen-used v inv y m e j p l =
    let r = seen-map y v.disks m e in
    shown-used v inv p.block (by_disk (disk_at (place_of y v.disks) v.disks) j p (mem-at v.disks (place_of y v.disks) blank r.0) (ap (look_in j) r.1 ∙ l) refl)

module _ (t : Store) (inv : Sound t.volume) where
  left : (c : Call) (y j : ℕ) (bs : List ℕ) → Leaves c y j → reads y j t ≡ Ok bs → reads y j (play c t) ≡ Ok bs
  left c y j bs l e =
      let (m, s) = some-map t.bytes (seen y t.volume.disks) j bs (sym (reads-map y j t) ∙ e) in
      let r = step_kept c t.volume y j m inv l s in
      reads-map y j (play c t) ∙ ap (λ n. read_map (play c t).bytes n j) r.there
      ∙ read_same t.bytes (play c t).bytes m r.now j r.same (λ p q. used-bytes c t inv p.block (seen-used t.volume inv y m s j p q))
      ∙ ap (λ n. read_map t.bytes n j) (sym s) ∙ sym (reads-map y j t) ∙ e

  stays : (c : Call) (x j : ℕ) (bs : List ℕ) → (c ≡ release x → ⊥) → reads_hold x j t ≡ Ok bs → reads_hold x j (play c t) ≡ Ok bs
  stays c x j bs ne e = go (find x t.volume.disks) refl
    where
      go : (f : Option Past) → find x t.volume.disks ≡ f → reads_hold x j (play c t) ≡ Ok bs
      go None q = absurd (err≢ok Missing bs (sym (reads_hold-map x j t ∙ ap (λ n. read_map t.bytes (shown_of n) j) q) ∙ e))
      go (Some p) q =
          let (d, h, m, mh, pq, n) = found_in t.volume inv x p q in
          let f = step-finds c t.volume x (found_below t.volume inv x p q) ne ∙ q in
          reads_hold-map x j (play c t) ∙ ap (λ k. read_map (play c t).bytes (shown_of k) j) f
          ∙ read_same t.bytes (play c t).bytes p.shows p.shows j refl
          (λ r l. used-bytes c t inv r.block (shown-used t.volume inv r.block (by_hold d h j r m mh (ap (λ (y : Past). look_in j y.shows) pq ∙ l) refl)))
          ∙ ap (λ k. read_map t.bytes (shown_of k) j) (sym q) ∙ sym (reads_hold-map x j t) ∙ e

  -- a change of one slot
  changed-reads : (d s : ℕ) (bs : Option (List ℕ)) (f : Bytes) → place_of d t.volume.disks < length t.volume.disks → s < most_slots →
      read_map f (seen d (change_at (place_of d t.volume.disks) (change s bs) t.volume).disks) s ≡ Ok (bytes_of f (slot_for bs t.volume))
  changed-reads d s bs f lt small =
      let v = t.volume in
      let i = place_of d v.disks in
      let e = disk_at i v.disks in
      let x = slot_for bs v in
      let rises = present-rises v.moment v.names _ _ e.holds e.shows e.gone (disk-ok v inv i lt).line in
      ap (λ n. read_map f n s) (seen-set map_in d v.disks (showing s x e) lt (disk-name d v.disks lt)) ∙ read-in f (set_in s x e.shows) s small ∙ ap (λ y. Ok (bytes_of f y)) (look-set s x e.shows rises)

  written : (d s : ℕ) (bs : List ℕ) → (step (write d s bs) t.volume).answer ≡ Ok done → reads d s (play (write d s bs) t) ≡ Ok bs
  written d s bs h =
      let v = t.volume in
      let none = was-done (write d s bs) v done h in
      let a = or_parts _ (no_slot s) (none-applies (reasons (write d s bs) v) none).0 in
      let b = lowest_in v.uses in
      let q = done-step (write d s bs) v none in
      let after : Store = record { volume = (does (write d s bs) v).leaves; bytes = laid (does (write d s bs) v).puts t.bytes } in
      let same : play (write d s bs) t ≡ after = ap (λ (x : Done). record { volume = x.leaves; bytes = laid x.puts t.bytes }) q in
      ap (reads d s) same ∙ reads-map d s after ∙ changed-reads d s (Some bs) after.bytes (disk-there d v.disks a.0) (slot_small s a.1) ∙ ap Ok (ap (λ z. cond z bs (t.bytes b)) (eq-eqb b b refl))

  cleared : (d s : ℕ) → (step (clear d s) t.volume).answer ≡ Ok done → reads d s (play (clear d s) t) ≡ Ok zeros
  cleared d s h =
      let v = t.volume in
      let none = was-done (clear d s) v done h in
      let a = or_parts _ (no_slot s) (none-applies (reasons (clear d s) v) none).0 in
      let after : Store = record { volume = (does (clear d s) v).leaves; bytes = t.bytes } in
      let same : play (clear d s) t ≡ after = ap (λ (x : Done). record { volume = x.leaves; bytes = laid x.puts t.bytes }) (done-step (clear d s) v none) in
      ap (reads d s) same ∙ reads-map d s after ∙ changed-reads d s None t.bytes (disk-there d v.disks a.0) (slot_small s a.1)

  -- a call that writes nothing
  quiet : (c : Call) → (does c t.volume).puts ≡ [] → refusal (reasons c t.volume) ≡ None → play c t ≡ record { volume = (does c t.volume).leaves; bytes = t.bytes }
  quiet c p none = grind (arith, nat_tests)

  empty : (n j : ℕ) → (step new t.volume).answer ≡ Ok (name n) → j < most_slots → reads n j (play new t) ≡ Ok zeros
  empty n j h lt =
      let v = t.volume in
      let none = was-done new v (name n) h in
      let e = named-next new v n refl h none in
      let after : Store = record { volume = (does new v).leaves; bytes = t.bytes } in
      ap (reads n j) (quiet new refl none) ∙ reads-map n j after ∙ ap (λ m. read_map t.bytes m j) (seen-new map_in n v.disks (fresh v.names None []) (unnamed v inv n (omega arith)) (sym e))
      ∙ read-in t.bytes [] j lt ∙ ap (λ x. Ok (bytes_of t.bytes x)) (look_none j)

  copied : (h n j : ℕ) → (step (copy h) t.volume).answer ≡ Ok (name n) → reads n j (play (copy h) t) ≡ reads_hold h j t
  copied h n j a =
      let v = t.volume in
      let none = was-done (copy h) v (name n) a in
      let e = named-next (copy h) v n refl a none in
      let k = hold_named h v.disks in
      let lt = holder-there h v.disks (none-applies (reasons (copy h) v) none).0 in
      let after : Store = record { volume = (does (copy h) v).leaves; bytes = t.bytes } in
      ap (reads n j) (quiet (copy h) refl none) ∙ reads-map n j after
      ∙ ap (λ m. read_map t.bytes m j) (seen-new map_in n v.disks (fresh v.names (origin_of k) k.shows) (unnamed v inv n (omega arith)) (sym e))
      ∙ ap (λ f. read_map t.bytes (shown_of f) j) (sym (find-named h v.disks lt)) ∙ sym (reads_hold-map h j t)

  held_reads : (d n j : ℕ) → (step (hold d) t.volume).answer ≡ Ok (name n) → reads_hold n j (play (hold d) t) ≡ reads d j t
  held_reads d n j a =
      let v = t.volume in
      let none = was-done (hold d) v (name n) a in
      let e = named-next (hold d) v n refl a none in
      let i = place_of d v.disks in
      let x = disk_at i v.disks in
      let lt = disk-there d v.disks (none-applies (reasons (hold d) v) none).0 in
      let hd : HoldHead = record { name = v.names; moment = v.moment } in
      let after : Store = record { volume = (does (hold d) v).leaves; bytes = t.bytes } in
      ap (reads_hold n j) (quiet (hold d) refl none) ∙ reads_hold-map n j after
      ∙ ap (λ f. read_map t.bytes (shown_of f) j) (find-new n v.disks i (held hd x.mark x) (hold_of hd x) lt (unnamed v inv n (omega arith)) refl (sym e))
      ∙ ap (λ m. read_map t.bytes m j) (sym (seen-there map_in d v.disks lt)) ∙ sym (reads-map d j t)

pub reads-right : ReadsRight
reads-right n number f calls =
    let t = stored n number f calls in
    let inv = stored-sound n number f calls in
    record {
      written = written t inv;
      cleared = cleared t inv;
      empty = empty t inv;
      held = held_reads t inv;
      copied = copied t inv;
      left = left t inv;
      stays = stays t inv;
    }
