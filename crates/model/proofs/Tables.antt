-- The table of uses after some blocks became free and a slot's block was taken into use.
use Rattle.std.proofs.lemmas.Bool.Decides.{nat_tests}
use Rattle.std.proofs.Common.{◌≡◌, ℕ, ◌+◌, ◌<◌, ◌≤◌, true, false, List, length, sym, ap, ◌∙◌, ⊎_elim, arith}
use Rattle.std.specs.List.{AllByRecursion}
use Rattle.std.proofs.lemmas.Bool.{cases_lt, eq-eqb, ne_eqb, true≢false}
use Rattle.std.proofs.lemmas.List.{get_or_past, get_or-set_same}
use Rattle.model.specs.Blocks.{is, is_reserved, is_free, use_at, used_at, free_all, used_by}
use Rattle.model.specs.Maps.{shown_in}
use Rattle.model.specs.Sums.{bit, sum}
use Rattle.model.specs.declared.types.Ptr.{Ptr}
use Rattle.model.specs.declared.types.Slot.{Slot}
use Rattle.model.specs.declared.types.Use.{Use}
use Rattle.model.specs.declared.types.Use.TheVariants.{Reserved}
use Rattle.model.proofs.Blocks.{used-there, free-unused, free_open, used-open, length-free, length-used, used-other, used-taken, counts-free, free-cases}

-- the slot's block may be used
abbrev pub Usable : Slot → List Use → Type 0
Usable x us = AllByRecursion (λ p. is_free (use_at p.block us) ≡ true) (shown_in x)

-- the blocks of a list are in use
abbrev pub InUse : List Ptr → List Use → Type 0
InUse fs us = (c : ℕ) → sum (is c) fs ≤ bit (used_at c us)

pub free-there : (b : ℕ) (us : List Use) → is_free (use_at b us) ≡ true → b < length us
free-there b us h = ⊎_elim (λ lt. lt) (λ le. absurd (true≢false (sym h ∙ ap is_free (get_or_past us b Reserved le)))) (cases_lt b (length us))

-- a block that isn't in use is for what it was
pub free_stays : (fs : List Ptr) (us : List Use) → InUse fs us → (b : ℕ) → used_at b us ≡ false → use_at b (free_all fs us) ≡ use_at b us
free_stays fs us within b h = grind (arith, nat_tests, free-cases)

pub usable_after : (x : Slot) (fs : List Ptr) (us : List Use) → InUse fs us → Usable x us → Usable x (free_all fs us)
usable_after x fs us within ok = grind (arith, nat_tests, free-unused, free_stays)

pub length-table : (x : Slot) (fs : List Ptr) (us : List Use) → length (used_by x (free_all fs us)) ≡ length us
length-table x fs us = length-used x (free_all fs us) ∙ length-free fs us

counts-used : (c : ℕ) (x : Slot) (us : List Use) → Usable x us → bit (used_at c (used_by x us)) ≡ bit (used_at c us) + sum (is c) (shown_in x)
counts-used c x us ok = grind (arith, nat_tests, eq-eqb, free-there, free-unused, ne_eqb, used-other, used-taken)

pub table-counts : (c : ℕ) (x : Slot) (fs : List Ptr) (us : List Use) → Usable x us → InUse fs us →
    bit (used_at c (used_by x (free_all fs us))) + sum (is c) fs ≡ bit (used_at c us) + sum (is c) (shown_in x)
table-counts c x fs us ok within = omega (arith, counts-used c x (free_all fs us) (usable_after x fs us within ok), counts-free c fs us (within c))

reserved-freed : (fs : List Ptr) (us : List Use) → InUse fs us → (c : ℕ) → is_reserved (use_at c (free_all fs us)) ≡ is_reserved (use_at c us)
reserved-freed fs us within c = grind (arith, nat_tests, free-cases, used-open, used-there)

reserved-used : (x : Slot) (us : List Use) → Usable x us → (c : ℕ) → is_reserved (use_at c (used_by x us)) ≡ is_reserved (use_at c us)
reserved-used x us ok c = grind (arith, nat_tests, free-there, free_open, get_or-set_same, used-other)

pub table-reserved : (x : Slot) (fs : List Ptr) (us : List Use) → Usable x us → InUse fs us → (c : ℕ) → is_reserved (use_at c (used_by x (free_all fs us))) ≡ is_reserved (use_at c us)
table-reserved x fs us ok within c = reserved-used x (free_all fs us) (usable_after x fs us within ok) c ∙ reserved-freed fs us within c
