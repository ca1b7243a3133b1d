-- The numbers of a volume fit their bytes, and its limits can be reached.
use Rattle.std.proofs.Common.{◌≡◌, ℕ, zero, suc, ◌+◌, ◌<◌, ◌≤◌, Bool, true, false, ◌&&◌, eqb, List, [], ◌∷◌, map, length, Some, None, Option, sym, refl, ap, ◌∙◌, subst, arith}
use Rattle.std.proofs.lemmas.Bool.Decides.{nat_tests}
use mathlib.Core.List.{Memᴰ}
use Rattle.model.specs.Blocks.{free_all}
use Rattle.model.specs.Bounds.{PtrFits, EntryFits, HoldFits, DiskFits, LimitsKept, LimitsReached}
use Rattle.std.specs.List.{AllByRecursion}
use Rattle.std.proofs.lemmas.Bool.{eqb-true, and_parts}
use Rattle.rules.specs.Limits.{most_slots, moment_end, name_end}
use Rattle.model.specs.Exactly.{Shown, by_disk, by_hold}
use Rattle.model.specs.Gone.{map_at}
use Rattle.model.specs.Holds.{base, Past, find, past_of}
use Rattle.model.specs.Maps.{Map, look_in, put_in, remove_in, shown_by, rising, slots_rise}
use Rattle.model.specs.Runs.{reached}
use Rattle.model.specs.Sound.{Early, Link, Line, Sound, Within}
use Rattle.model.specs.Steps.{gone_at, start}
use Rattle.model.specs.Sums.{bit, sum}
use Rattle.model.specs.Volume.{Hold, Disk, Volume, since}
use Rattle.model.specs.declared.types.HoldHead.{HoldHead}
use Rattle.model.specs.declared.types.Ptr.{Ptr}
use Rattle.model.specs.declared.types.Slot.TheVariants.{At}
use Rattle.model.proofs.Blocks.{length-unused}
use Rattle.model.proofs.Bounds.{in-range, run-same, run-within, start-within}
use Rattle.model.proofs.Disks.{disk_names, all-mem}
use Rattle.model.proofs.Gones.{base-rises}
use Rattle.model.proofs.Lines.{gone-few}
use Rattle.model.proofs.Maps.{few-entries, rise-parts, look-here, look-past}
use Rattle.model.proofs.Shows.{line_of, shown-used, exact, hold-rises}
use Rattle.model.proofs.Stays.{found_in}
use Rattle.model.proofs.Steps.{reached-sound}

-- THE NUMBERS of maps and lists
-- a list has only pointers that the one before shows
same_ptr : Ptr → Ptr → ℕ
same_ptr p r = bit (eqb p.block r.block && eqb p.birth r.birth)

same-one : (p : Ptr) → same_ptr p p ≡ 1
unfolding same_ptr
same-one p = grind (arith, nat_tests)

sum-all : (P : Ptr → Type 0) (p : Ptr) (l : List Ptr) → ((r : Ptr) → p.block ≡ r.block → p.birth ≡ r.birth → P r → P p) → 1 ≤ sum (same_ptr p) l → AllByRecursion P l → P p
unfolding same_ptr
sum-all P p [] f h a = absurd (omega arith)
sum-all P p (r ∷ l) f h a = go (eqb p.block r.block && eqb p.birth r.birth) refl (λ k. sum-all P p l f k a.1) h
  where
    go : (b : Bool) → (eqb p.block r.block && eqb p.birth r.birth) ≡ b → (1 ≤ sum (same_ptr p) l → P p) → 1 ≤ bit b + sum (same_ptr p) l → P p
    go true e again k = let q = and_parts (eqb p.block r.block) (eqb p.birth r.birth) e in f r (eqb-true p.block r.block q.0) (eqb-true p.birth r.birth q.1) a.0
    go false e again k = again (omega arith)

mem-one : (p : Ptr) (l : List Ptr) → Memᴰ p l → 1 ≤ sum (same_ptr p) l
mem-one p [] m = elim m [ ]
mem-one p (r ∷ l) (Memᴰ.head e) = let z : same_ptr p r ≡ 1 = ap (same_ptr p) (sym e) ∙ same-one p in omega arith
mem-one p (r ∷ l) (Memᴰ.tail m) = omega (arith, mem-one p l m)

all_of : {X : Type 0} (P : X → Type 0) (l : List X) → ((p : X) → Memᴰ p l → P p) → AllByRecursion P l
all_of P [] f = tt
all_of P (p ∷ l) f = (f p (Memᴰ.head refl), all_of P l (λ q m. f q (Memᴰ.tail m)))

link_fits : (k : ℕ) (q m : Map) (g : List Ptr) → Link k q m g → AllByRecursion PtrFits (shown_by q) → AllByRecursion PtrFits g
link_fits k q m g link a = grind (arith, nat_tests, all_of, mem-one, same_ptr, sum-all)

-- the entries of a map
entries_fit : (n : ℕ) (m : Map) → rising most_slots n (map (λ e. e.slot) m) ≡ true → AllByRecursion PtrFits (shown_by m) → AllByRecursion EntryFits m
entries_fit n [] h a = tt
entries_fit n (e ∷ m) h a = let p = rise-parts most_slots n e.slot (map (λ f. f.slot) m) h in ((p.1, a.0), entries_fit (suc e.slot) m p.2 a.1)

-- the pointers of a map whose blocks are in use
look-of : (n : ℕ) (m : Map) → rising most_slots n (map (λ e. e.slot) m) ≡ true → (p : Ptr) → Memᴰ p (shown_by m) → (s : ℕ) × (look_in s m ≡ At p) × (n ≤ s)
look-of n [] h p x = elim x [ ]
look-of n (e ∷ m) h p (Memᴰ.head q) = (e.slot, look-here e.slot e m refl ∙ ap At (sym q), (rise-parts most_slots n e.slot (map (λ f. f.slot) m) h).0)
look-of n (e ∷ m) h p (Memᴰ.tail x) =
    let r = rise-parts most_slots n e.slot (map (λ f. f.slot) m) h in
    let k = look-of (suc e.slot) m r.2 p x in
    (k.0, look-past k.0 e m k.2 ∙ k.1, omega (arith, k.2, r.0))

module _ (v : Volume) (inv : Sound v) (ok : Within v) where
  map-fits : (m : Map) (t : ℕ) → t ≤ v.moment → slots_rise m ≡ true → Early t m → ((s : ℕ) (p : Ptr) → look_in s m ≡ At p → Shown v p.block) → AllByRecursion PtrFits (shown_by m)
  map-fits m t le rises early shown =
      all_of PtrFits (shown_by m) (λ p x.
      let r = look-of 0 m rises p x in
      let i = (exact v inv p.block).inside (shown-used v inv p.block (shown r.0 p r.1)) in
      let b = all-mem (λ (y : Ptr). (0 < y.birth) × (y.birth < t)) p (shown_by m) early x in
      (i.0, omega (arith, i.1, ok.most), omega (arith, b.1, ok.moment)))

  -- what comes before a disk's oldest version
  base-fits : (f : Option HoldHead) → AllByRecursion PtrFits (shown_by (base v.disks f).shows)
  base-fits None = tt
  base-fits (Some o) = go (find o.name v.disks) refl
    where
      go : (f : Option Past) → find o.name v.disks ≡ f → AllByRecursion PtrFits (shown_by (past_of f).shows)
      go None e = tt
      go (Some p) e =
          let (d, h, m, mh, q, n) = found_in v inv o.name p e in
          let early = hold-early v.moment v.names (since d.from) _ d.holds d.shows d.gone h (line_of v inv d m) mh in
          subst (λ (y : Past). AllByRecursion PtrFits (shown_by y.shows)) q
          (map-fits h.shows h.moment (omega (arith, early.0)) (hold-rises v inv d h m mh) early.1 (λ s r l. by_hold d h s r m mh l refl))
        where
          hold-early : (now names k : ℕ) (q : Map) (hs : List Hold) (m : Map) (g : List Ptr) (h : Hold) → Line now names k q hs m g → Memᴰ h hs → (h.moment < now) × Early h.moment h.shows
          hold-early now names k q [] m g h l x = elim x [ ]
          hold-early now names k q (c ∷ hs) m g h l (Memᴰ.head e) = subst (λ (y : Hold). (y.moment < now) × Early y.moment y.shows) (sym e) (l.0.past, l.0.version.early)
          hold-early now names k q (c ∷ hs) m g h l (Memᴰ.tail x) = hold-early now names c.moment c.shows hs m g h l.1 x

  -- the versions of a disk, of which hs are the holds from some place on
  module _ (d : Disk) (md : Memᴰ d v.disks) where
    versions : (k : ℕ) (q : Map) (hs : List Hold) → ((h : Hold) → Memᴰ h hs → Memᴰ h d.holds) → AllByRecursion PtrFits (shown_by q) → slots_rise q ≡ true → Line v.moment v.names k q hs d.shows d.gone → (j : ℕ) →
        ((length (map_at j hs d.shows) ≤ most_slots) × AllByRecursion EntryFits (map_at j hs d.shows)) × AllByRecursion PtrFits (gone_at j hs d.gone)
    versions k q [] f a rq l j =
        let p = map-fits d.shows v.moment (omega arith) l.rises l.early (λ s r e. by_disk d s r md e refl) in
        ((few-entries d.shows l.rises, entries_fit 0 d.shows l.rises p), link_fits k q d.shows d.gone l.link a)
    versions k q (h ∷ hs) f a rq l j =
        let x = l.0.version in
        let p = map-fits h.shows h.moment (omega (arith, l.0.past)) x.rises x.early (λ s r e. by_hold d h s r md (f h (Memᴰ.head refl)) e refl) in
        let again = versions h.moment h.shows hs (λ c m. f c (Memᴰ.tail m)) p x.rises l.1 in
        go j p (link_fits k q h.shows h.gone x.link a) again
      where
        go : (i : ℕ) → AllByRecursion PtrFits (shown_by h.shows) → AllByRecursion PtrFits h.gone → ((c : ℕ) → ((length (map_at c hs d.shows) ≤ most_slots) × AllByRecursion EntryFits (map_at c hs d.shows)) × AllByRecursion PtrFits (gone_at c hs d.gone)) →
            ((length (map_at i (h ∷ hs) d.shows) ≤ most_slots) × AllByRecursion EntryFits (map_at i (h ∷ hs) d.shows)) × AllByRecursion PtrFits (gone_at i (h ∷ hs) d.gone)
        go zero p g again = ((few-entries h.shows l.0.version.rises, entries_fit 0 h.shows l.0.version.rises p), g)
        go (suc i) p g again = again i

    hold-numbers : (now names k : ℕ) (q : Map) (hs : List Hold) (m : Map) (g : List Ptr) → now < moment_end → names < name_end → Line now names k q hs m g → AllByRecursion HoldFits hs
    hold-numbers now names k q [] m g a b l = tt
    hold-numbers now names k q (h ∷ hs) m g a b l = ((omega (arith, l.0.name), omega (arith, l.0.past)), hold-numbers now names h.moment h.shows hs m g a b l.1)

    disk-number : (n : ℕ) (ds : List Disk) → rising v.names n (disk_names ds) ≡ true → Memᴰ d ds → d.name < v.names
    disk-number n [] h x = elim x [ ]
    disk-number n (c ∷ ds) h (Memᴰ.head e) = omega (arith, (rise-parts v.names n c.name (disk_names ds) h).1, ap (λ (y : Disk). y.name) e)
    disk-number n (c ∷ ds) h (Memᴰ.tail x) = disk-number (suc c.name) ds (rise-parts v.names n c.name (disk_names ds) h).2 x

    disk-fits : DiskFits d
    disk-fits =
        let q = (base v.disks d.from).shows in
        let l = line_of v inv d md in
        let all = versions (since d.from) q d.holds (λ _ m. m) (base-fits d.from) (base-rises v inv d.from) l in
        record {
          name = omega (arith, disk-number 0 v.disks inv.order md, ok.names);
          holds = hold-numbers v.moment v.names (since d.from) q d.holds d.shows d.gone ok.moment ok.names l;
          maps = λ j _. (all j).0;
          lists = λ j _. (gone-few v.moment v.names (since d.from) q j d.holds d.shows d.gone (few-entries q (base-rises v inv d.from)) l, (all j).1);
        }

pub limits-kept : LimitsKept
limits-kept n number calls e lt =
    let v = reached n number calls in
    let inv = reached-sound n number calls in
    let ok = run-within calls (start n number) (start-within n number e lt) in
    let same = run-same calls (start n number) in
    let r = in-range n e in
    record { within = ok; fits = λ d m. disk-fits v inv ok d m; number = same.0; blocks = omega (arith, same.1, length-unused n, r.0) }

pub limits_reached_lem : LimitsReached
unfolding look_in put_in remove_in rising free_all
limits_reached_lem = record { disks = refl; ninth = refl; holds = refl; seventeenth = refl; last = refl; past = refl; all = refl }
