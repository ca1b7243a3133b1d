-- How many blocks of the table pass a test, after some became free and one was taken into use.
use Rattle.std.proofs.Common.{◌≡◌, ℕ, ◌+◌, ◌<◌, Bool, true, false, cond, List, [], ◌∷◌, length, get_or, set, filter, refl, ap, arith}
use Rattle.std.proofs.lemmas.Bool.Decides.{nat_tests}
use Rattle.std.proofs.lemmas.List.{get_or-set_other}
use Rattle.std.proofs.lemmas.List.Sums.{length-filter, sum_by-set}
use Rattle.std.proofs.lemmas.Bool.{eq-eqb, lt-leb, leb-false}
use Rattle.model.specs.Blocks.{is_free, is_used, use_at, used_at, lowest_in, is_full, usable, free_all, used_by}
use Rattle.model.specs.Maps.{shown_in}
use Rattle.model.specs.Sums.{bit, sum}
use Rattle.model.specs.declared.types.Ptr.{Ptr}
use Rattle.model.specs.declared.types.Slot.{Slot}
use Rattle.model.specs.declared.types.Slot.TheVariants.{Empty, At}
use Rattle.model.specs.declared.types.Use.{Use}
use Rattle.model.specs.declared.types.Use.TheVariants.{Reserved, Used, Freed}
use Rattle.model.proofs.Blocks.{used-there}
use Rattle.model.proofs.Sums.{bit-most}
use Rattle.model.proofs.Tables.{InUse, Usable, free-there, usable_after}

abbrev pub passing : {X : Type 0} → (X → Bool) → List X → ℕ
passing f xs = length (filter f xs)

pub passing-set : {X : Type 0} (f : X → Bool) (xs : List X) (i : ℕ) (y d : X) → i < length xs → passing f (set xs i y) + bit (f (get_or xs i d)) ≡ passing f xs + bit (f y)
passing-set f xs i y d lt = omega (arith, length-filter f (set xs i y), length-filter f xs, sum_by-set (λ x. cond (f x) 1 0) xs i y d lt)

-- the rest of a list that is in use is in use after its first became free
rest-used : (p : Ptr) (ps : List Ptr) (us : List Use) → InUse (p ∷ ps) us → (used_at p.block us ≡ true) × InUse ps (set us p.block Freed)
rest-used p ps us h = grind (arith, nat_tests, InUse, bit-most, eq-eqb, get_or-set_other)

-- a test that no block in use passes
module _ (f : Use → Bool) (none : f Used ≡ false) where
  used-none : (u : Use) → is_used u ≡ true → bit (f u) ≡ 0
  used-none u h = grind (arith, nat_tests)

  pub passing-free : (fs : List Ptr) (us : List Use) → InUse fs us → passing f (free_all fs us) ≡ passing f us + sum (λ _. bit (f Freed)) fs
  unfolding free_all
  passing-free [] us h = omega arith
  passing-free (p ∷ ps) us h =
      let r = rest-used p ps us h in
      omega (arith, passing-free ps (set us p.block Freed) r.1, passing-set f us p.block Freed Reserved (used-there p.block us r.0), used-none (use_at p.block us) r.0)

sum-zero : {X : Type 0} (l : List X) → sum (λ _. 0) l ≡ 0
sum-zero [] = refl
sum-zero (x ∷ l) = omega (arith, sum-zero l)

usable-taken : (x : Slot) (us : List Use) → Usable x us → usable (used_by x us) + length (shown_in x) ≡ usable us
usable-taken Empty us ok = omega arith
usable-taken (At p) us ok = omega (arith, passing-set is_free us p.block Used Reserved (free-there p.block us ok.0), ap bit ok.0)

-- how many may be used
pub usable-table : (x : Slot) (fs : List Ptr) (us : List Use) → Usable x us → InUse fs us → usable (used_by x (free_all fs us)) + length (shown_in x) ≡ usable us
usable-table x fs us ok within = omega (arith, usable-taken x (free_all fs us) (usable_after x fs us within ok), passing-free is_free refl fs us within, sum-zero fs)

-- some may be used exactly where the lowest is there
usable-there : (us : List Use) → (0 < usable us → lowest_in us < length us) × (lowest_in us < length us → 0 < usable us)
usable-there [] = (λ l. absurd (omega arith), λ l. absurd (omega arith))
usable-there (u ∷ us) = let again = usable-there us in grind (arith, nat_tests)

pub some-usable : (us : List Use) → 0 < usable us → is_full us ≡ false
some-usable us lt = lt-leb (length us) (lowest_in us) ((usable-there us).0 lt)

pub not_full : (us : List Use) → is_full us ≡ false → 0 < usable us
not_full us h = (usable-there us).1 (leb-false (length us) (lowest_in us) h)
