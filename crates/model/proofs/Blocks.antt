-- The table of what each block is for.
use Rattle.std.proofs.Common.{◌≡◌, ℕ, zero, suc, ◌+◌, ◌-◌, ◌<◌, ◌≤◌, true, false, not, ◌||◌, ltb, leb, ◌⊎◌, List, [], ◌∷◌, ◌++◌, map, length, set, replicate, sym, refl, ap, ◌∙◌, inl, ⊎_elim, arith}
use Rattle.std.proofs.lemmas.Bool.Decides.{nat_tests}
use Rattle.std.proofs.lemmas.Bool.{eq-eqb, ne_eqb, leb-false, not-false, true≢false, cases_lt}
use Rattle.std.proofs.lemmas.List.Sums.{prefix_len_stops}
use Rattle.std.proofs.lemmas.List.{length-set, get_or-set_same, get_or-set_other, get_or_past, length-append, length-replicate}
use Rattle.rules.specs.Limits.{first_block}
use Rattle.model.specs.Blocks.{is, is_reserved, is_free, is_used, use_at, used_at, lowest_in, is_full, free_all, used_by, renew, unused}
use Rattle.model.specs.Sums.{bit, sum}
use Rattle.model.specs.declared.types.Ptr.{Ptr}
use Rattle.model.specs.declared.types.Slot.{Slot}
use Rattle.model.specs.declared.types.Use.{Use}
use Rattle.model.specs.declared.types.Use.TheVariants.{Reserved, Free, Used, Freed}
use Rattle.model.proofs.Sums.{bit-most}

-- a block that is in use is there
pub used-there : (b : ℕ) (us : List Use) → used_at b us ≡ true → b < length us
used-there b us h = ⊎_elim (λ lt. lt) (λ le. absurd (true≢false (sym h ∙ ap is_used (get_or_past us b Reserved le)))) (cases_lt b (length us))

-- the lowest usable block
pub lowest-there : (us : List Use) → is_full us ≡ false → lowest_in us < length us
lowest-there us h = leb-false (length us) (lowest_in us) h

pub lowest-free : (us : List Use) → is_full us ≡ false → is_free (use_at (lowest_in us) us) ≡ true
lowest-free us h = not-false _ (prefix_len_stops (λ u. not (is_free u)) us Reserved (lowest-there us h))

-- a use by what it isn't
pub free-unused : (u : Use) → is_free u ≡ true → is_used u ≡ false
free-unused u h = grind (arith, nat_tests)

pub free_open : (u : Use) → is_free u ≡ true → is_reserved u ≡ false
free_open u h = grind (arith, nat_tests)

pub used-open : (u : Use) → is_used u ≡ true → is_reserved u ≡ false
used-open u h = grind (arith, nat_tests)

-- blocks become free
pub length-free : (ps : List Ptr) (us : List Use) → length (free_all ps us) ≡ length us
unfolding free_all
length-free [] us = refl
length-free (p ∷ ps) us = length-free ps (set us p.block Freed) ∙ length-set us p.block Freed

pub length-used : (x : Slot) (us : List Use) → length (used_by x us) ≡ length us
length-used x us = grind (arith, nat_tests, length-set)

use-freed : (us : List Use) (c : ℕ) → c < length us → use_at c (set us c Freed) ≡ Freed
use-freed us c lt = get_or-set_same us c Freed Reserved lt

unused-freed : (us : List Use) (c : ℕ) → used_at c (set us c Freed) ≡ false
unused-freed [] c = refl
unused-freed (u ∷ us) zero = refl
unused-freed (u ∷ us) (suc c) = unused-freed us c

pub used-other : (us : List Use) (b c : ℕ) (x : Use) → (c ≡ b → ⊥) → use_at c (set us b x) ≡ use_at c us
used-other us b c x ne = get_or-set_other us b c x Reserved ne

pub used-taken : (us : List Use) (b : ℕ) → b < length us → used_at b (set us b Used) ≡ true
used-taken us b lt = ap is_used (get_or-set_same us b Used Reserved lt)

-- each block of a list that is in use becomes free, once
pub counts-free : (c : ℕ) (ps : List Ptr) (us : List Use) → sum (is c) ps ≤ bit (used_at c us) → bit (used_at c (free_all ps us)) + sum (is c) ps ≡ bit (used_at c us)
unfolding free_all
counts-free c [] us le = omega arith
counts-free c (p ∷ ps) us le = let again = counts-free c ps (set us p.block Freed) in grind (arith, nat_tests, bit-most, eq-eqb, ne_eqb, unused-freed, used-other)

-- what a block is for after a list became free: as before, or freed if it is in the list
pub free-cases : (c : ℕ) (ps : List Ptr) (us : List Use) → ((sum (is c) ps ≡ 0) × (use_at c (free_all ps us) ≡ use_at c us)) ⊎ ((0 < sum (is c) ps) × (c < length us → use_at c (free_all ps us) ≡ Freed))
unfolding free_all
free-cases c [] us = inl (refl, refl)
free-cases c (p ∷ ps) us = let again = free-cases c ps (set us p.block Freed) in grind (arith, nat_tests, eq-eqb, length-set, ne_eqb, use-freed, used-other)

-- a sync: what is in use and what is reserved stays
pub use-renew : (b : ℕ) (us : List Use) → use_at b (map renew us) ≡ renew (use_at b us)
use-renew b [] = refl
use-renew zero (u ∷ us) = refl
use-renew (suc b) (u ∷ us) = use-renew b us

pub used-renew : (u : Use) → is_used (renew u) ≡ is_used u
used-renew u = grind (arith, nat_tests)

pub reserved-renew : (u : Use) → is_reserved (renew u) ≡ is_reserved u
reserved-renew u = grind (arith, nat_tests)

-- the table of a formatted volume
pub length-unused : (n : ℕ) → length (unused n) ≡ first_block + (n - first_block)
length-unused n = length-append (replicate first_block Reserved) (replicate (n - first_block) Free) ∙ rw (length-replicate first_block Reserved, length-replicate (n - first_block) Free)

none-used : (n b : ℕ) → used_at b (replicate n Free) ≡ false
none-used zero b = refl
none-used (suc n) zero = refl
none-used (suc n) (suc b) = none-used n b

pub nothing-used : (k n b : ℕ) → used_at b (replicate k Reserved ++ replicate n Free) ≡ false
nothing-used zero n b = none-used n b
nothing-used (suc k) n zero = refl
nothing-used (suc k) n (suc b) = nothing-used k n b

free-reserved : (n b : ℕ) → is_reserved (use_at b (replicate n Free)) ≡ leb n b
free-reserved zero b = grind (arith, nat_tests)
free-reserved (suc n) zero = grind (arith, nat_tests)
free-reserved (suc n) (suc b) = free-reserved n b ∙ grind (arith, nat_tests)

pub first-reserved : (k n b : ℕ) → is_reserved (use_at b (replicate k Reserved ++ replicate n Free)) ≡ (ltb b k || leb (k + n) b)
first-reserved zero n b = free-reserved n b ∙ grind (arith, nat_tests)
first-reserved (suc k) n zero = grind (arith, nat_tests)
first-reserved (suc k) n (suc b) = first-reserved k n b ∙ grind (arith, nat_tests)
