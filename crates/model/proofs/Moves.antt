-- What each block is for before a step and after it.
use Rattle.std.proofs.lemmas.Bool.Decides.{nat_tests}
use Rattle.std.proofs.Common.{◌≡◌, ℕ, ◌+◌, ◌<◌, true, ◌⊎◌, List, [], ◌++◌, arith}
use Rattle.std.proofs.lemmas.List.{get_or-set_same}
use Rattle.std.proofs.lemmas.Bool.{ne_eqb}
use Rattle.model.specs.Blocks.{is, is_free, use_at, used_at, free_all, used_by, is_used}
use Rattle.model.specs.Freed.{may}
use Rattle.model.specs.Maps.{shown_in}
use Rattle.model.specs.Sums.{bit, sum}
use Rattle.model.specs.declared.types.Ptr.{Ptr}
use Rattle.model.specs.declared.types.Slot.{Slot}
use Rattle.model.specs.declared.types.Use.{Use}
use Rattle.model.specs.declared.types.Use.TheVariants.{Free, Used, Freed}
use Rattle.model.proofs.Blocks.{used-there, free-unused, used-other, free-cases}
use Rattle.model.proofs.Sums.{sum-append}
use Rattle.model.proofs.Tables.{Usable, InUse, free-there, free_stays, table-counts}

-- from a table to another: fs became free, and ts were taken into use
pub record Moved (us us' : List Use) (fs ts : List Ptr) : Type 0 where
  pub counts : (c : ℕ) → bit (used_at c us') + sum (is c) fs ≡ bit (used_at c us) + sum (is c) ts
  pub used : InUse fs us
  pub freed : (c : ℕ) → 0 < sum (is c) fs → use_at c us' ≡ Freed
  pub only : (c : ℕ) → use_at c us' ≡ Freed → (use_at c us ≡ Freed) ⊎ (0 < sum (is c) fs)
  pub taken : (c : ℕ) → 0 < sum (is c) ts → use_at c us ≡ Free
  pub turns : (c : ℕ) → may (use_at c us) (use_at c us') ≡ true

may-same : (u : Use) → may u u ≡ true
may-same u = grind (arith, nat_tests)

pub not-moved : (us : List Use) → Moved us us [] []
not-moved us = grind (arith, nat_tests)

-- a use by its test
pub is-used : (u : Use) → is_used u ≡ true → u ≡ Used
is-used u h = grind (arith, nat_tests)

pub is_free_lem : (u : Use) → is_free u ≡ true → u ≡ Free
is_free_lem u h = grind (arith, nat_tests)

pub in_use : (fs : List Ptr) (us : List Use) → InUse fs us → (c : ℕ) → 0 < sum (is c) fs → use_at c us ≡ Used
in_use fs us within c l = grind (arith, nat_tests)

-- the table after a slot's block was taken and what it showed became free
module _ (x : Slot) (fs : List Ptr) (us : List Use) (ok : Usable x us) (within : InUse fs us) where
  -- what a block is for: freed, taken, or as before
  data After (c : ℕ) : Type 0 where
    freed : 0 < sum (is c) fs → use_at c (used_by x (free_all fs us)) ≡ Freed → After c
    taken : sum (is c) fs ≡ 0 → use_at c us ≡ Free → use_at c (used_by x (free_all fs us)) ≡ Used → After c
    same : sum (is c) fs ≡ 0 → sum (is c) (shown_in x) ≡ 0 → use_at c (used_by x (free_all fs us)) ≡ use_at c us → After c

  after_free : (c : ℕ) → ((sum (is c) fs ≡ 0) × (use_at c (free_all fs us) ≡ use_at c us)) ⊎ ((0 < sum (is c) fs) × (use_at c (free_all fs us) ≡ Freed))
  after_free c = grind (arith, nat_tests, free-cases, in_use, used-there)

  after : (c : ℕ) → After c
  after c = grind (arith, nat_tests, Usable, after_free, free-there, free-unused, free_stays, get_or-set_same, in_use, is_free_lem, ne_eqb, used-other)

  pub table-moved : Moved us (used_by x (free_all fs us)) fs (shown_in x)
  table-moved = grind (arith, nat_tests, Usable, after, in_use, is_free_lem, may-same, ne_eqb, table-counts)

-- one after the other; what becomes free by the second was in use before the first
turns-both : (u v w : Use) → may u v ≡ true → may v w ≡ true → (u ≡ Free → w ≡ Freed → ⊥) → may u w ≡ true
turns-both u v w a b h = grind (arith, nat_tests)

-- what was freed stays so, and what may be used might be used before
freed-stays : (u v : Use) → u ≡ Freed → may u v ≡ true → v ≡ Freed
freed-stays u v e h = grind (arith, nat_tests)

free_was : (u v : Use) → v ≡ Free → may u v ≡ true → u ≡ Free
free_was u v e h = grind (arith, nat_tests)

pub moved-both : (us vs ws : List Use) (fs gs ts ss : List Ptr) → Moved us vs fs ts → Moved vs ws gs ss → InUse (fs ++ gs) us → Moved us ws (fs ++ gs) (ts ++ ss)
moved-both us vs ws fs gs ts ss a b within = grind (arith, nat_tests, free_was, freed-stays, in_use, sum-append, turns-both)
