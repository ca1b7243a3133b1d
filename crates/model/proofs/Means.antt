-- What the tests mean by which calls are refused.
use Rattle.std.proofs.Common.{◌≡◌, ℕ, zero, suc, ◌<◌, ◌≤◌, Bool, true, not, ◌||◌, eqb, leb, List, [], ◌∷◌, length, Some, None, Decides, Option, sym, refl, ap, ◌∙◌, ⊎_elim, arith}
use mathlib.Core.List.{Memᴰ}
use Rattle.model.specs.Blocks.{is_free, use_at, lowest_in}
use Rattle.std.specs.List.{prefix_len}
use Rattle.std.proofs.lemmas.List.{nil_from_length}
use Rattle.std.specs.Option.{is_none}
use Rattle.std.proofs.lemmas.Bool.{true≢false, and_parts, and_from, eq-eqb, eqb-true, lt-leb, or_cases, or_right}
use Rattle.std.proofs.lemmas.Bool.Decides.{nat_tests}
use Rattle.model.specs.Refusals.{Meaning}
use Rattle.model.specs.Tests.{changes_rise, follows, no_holds, has_mark, is_new}
use Rattle.model.specs.Volume.{Hold, Disk, blank, no_hold, disk_at, hold_at, place_of, hold_place, has_hold, holder_of, copy_of, is_copied}
use Rattle.model.specs.declared.types.HoldHead.{HoldHead}
use Rattle.model.specs.declared.types.Mark.{Mark}
use Rattle.model.specs.declared.types.Use.{Use}
use Rattle.model.specs.declared.types.Use.TheVariants.{Free}
use Rattle.model.proofs.Blocks.{lowest-free}
use Rattle.model.proofs.Disks.{mem-at, disk-name, holds_there, hold-there, hold-name}
use Rattle.model.proofs.Moves.{is_free_lem}
use Rattle.model.proofs.Tables.{free-there}

-- WHAT THE TESTS MEAN
-- a search that finds nothing passes everything by
passed : {X : Type 0} (p : X → Bool) (xs : List X) (x : X) → length xs ≤ prefix_len p xs → Memᴰ x xs → p x ≡ true
passed p [] x le m = elim m [ ]
passed p (y ∷ xs) x le (Memᴰ.head e) = grind (arith, nat_tests)
passed p (y ∷ xs) x le (Memᴰ.tail m) = let again : length xs ≤ prefix_len p xs → p x ≡ true = λ l. passed p xs x l m in grind (arith, nat_tests)

by_place : (n : ℕ) (a : ℕ) (P : Type 0) → (n ≤ a → P) → (a < n → P → ⊥) → Decides (leb n a) P
by_place n a P all some = grind (arith, nat_tests)

unnamed : (x n : ℕ) → not (eqb x n) ≡ true → x ≡ n → ⊥
unnamed x n h e = true≢false (sym h ∙ ap not (eq-eqb x n e))

none_free : (us : List Use) (b : ℕ) → b < lowest_in us → use_at b us ≡ Free → ⊥
none_free [] b lt e = omega arith
none_free (u ∷ us) zero lt e = grind (arith, nat_tests)
none_free (u ∷ us) (suc b) lt e = let again = none_free us b in grind (arith, nat_tests)

free-inside : (us : List Use) (b : ℕ) → use_at b us ≡ Free → b < length us
free-inside us b e = free-there b us (ap is_free e)

copied-by : (h : ℕ) (f : Option HoldHead) → copy_of h f ≡ true → (o : HoldHead) × (f ≡ Some o) × (o.name ≡ h)
copied-by h f e = grind (arith, nat_tests)

copied-mem : (h : ℕ) (ds : List Disk) → is_copied h ds ≡ true → (e : Disk) × (o : HoldHead) × Memᴰ e ds × (e.from ≡ Some o) × (o.name ≡ h)
copied-mem h [] e = absurd cc
copied-mem h (d ∷ ds) e =
    ⊎_elim (λ x. let r = copied-by h d.from x in (d, r.0, Memᴰ.head refl, r.1, r.2)) (λ x. let r = copied-mem h ds x in (r.0, r.1, Memᴰ.tail r.2, r.3, r.4))
    (or_cases (copy_of h d.from) (is_copied h ds) e)

mem_copied : (h : ℕ) (ds : List Disk) (e : Disk) (o : HoldHead) → Memᴰ e ds → e.from ≡ Some o → o.name ≡ h → is_copied h ds ≡ true
mem_copied h [] e o m f q = elim m [ ]
mem_copied h (d ∷ ds) e o (Memᴰ.head x) f q = grind (arith, nat_tests)
mem_copied h (d ∷ ds) e o (Memᴰ.tail m) f q = or_right _ _ (mem_copied h ds e o m f q)

-- marks
has-mark : (m : Mark) (o : Option Mark) → Decides (has_mark o m) (o ≡ Some m)
has-mark m o = grind (arith, nat_tests)

is-none : {X : Type 0} (o : Option X) → Decides (is_none o) (o ≡ None)
is-none o = grind (arith, nat_tests)

is-empty : {X : Type 0} (xs : List X) → Decides (eqb (length xs) 0) (xs ≡ [])
is-empty xs = ((λ h. nil_from_length xs (eqb-true (length xs) 0 h)), λ e. eq-eqb (length xs) 0 (ap length e))

is-new : (d : Disk) → Decides (is_new d) ((d.from ≡ None) × (d.mark ≡ None) × (d.holds ≡ []) × (d.shows ≡ []))
is-new d = (
  (λ h.
      let a = and_parts (is_none d.from) _ h in
      let b = and_parts (is_none d.mark) _ a.1 in
      let c = and_parts (no_holds d) _ b.1 in
      ((is-none d.from).0 a.0, (is-none d.mark).0 b.0, (is-empty d.holds).0 c.0, (is-empty d.shows).0 c.1)),
  λ (f, m, k, s). and_from _ _ ((is-none d.from).1 f) (and_from _ _ ((is-none d.mark).1 m) (and_from _ _ ((is-empty d.holds).1 k) ((is-empty d.shows).1 s))),
)

-- a stream that fits
fits : (w r f : Bool) → Decides (not (not w || (not r || not f))) ((w ≡ true) × (r ≡ true) × (f ≡ true))
fits w r f = grind (arith, nat_tests)

pub meaning : Meaning
meaning v =
    let ds = v.disks in
    record {
      disk = λ d. by_place (length ds) (place_of d ds) _ (λ le e m q. unnamed e.name d (passed (λ (x : Disk). not (eqb x.name d)) ds e le m) q)
          (λ lt none. none (disk_at (place_of d ds) ds) (mem-at ds (place_of d ds) blank lt) (disk-name d ds lt));
      hold = λ h. by_place (length ds) (holder_of h ds) _
          (λ le e k m mk q.
          let p = passed (λ (x : Disk). not (has_hold h x)) ds e le m in
          let l : length e.holds ≤ hold_place h e.holds = grind (arith, nat_tests) in
          unnamed k.name h (passed (λ (x : Hold). not (eqb x.name h)) e.holds k l mk) q)
          (λ lt none. none (disk_at (holder_of h ds) ds) (hold_at (hold_place h (holds_there h ds lt)) (holds_there h ds lt)) (mem-at ds (holder_of h ds) blank lt) (mem-at (holds_there h ds lt) _ no_hold (hold-there h ds lt)) (hold-name h ds lt));
      copied = λ h. (copied-mem h ds, λ (e, o, m, f, q). mem_copied h ds e o m f q);
      full = by_place (length v.uses) (lowest_in v.uses) _ (λ le b e. none_free v.uses b (omega (arith, free-inside v.uses b e)) e)
          (λ lt none. none (lowest_in v.uses) (is_free_lem _ (lowest-free v.uses (lt-leb (length v.uses) (lowest_in v.uses) lt))));
      chosen = λ h. (is_free_lem _ (lowest-free v.uses h), none_free v.uses);
      fit = λ st d. fits st.whole (changes_rise st.changes) (follows st.older d);
      marked = λ m d. has-mark m d.mark;
      begun = is-new;
    }
