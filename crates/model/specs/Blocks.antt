-- Lists of blocks parted by their births, and the table of what each block of the device is for. Assumes nothing.
use Rattle.std.specs.Prelude.{ℕ, ◌-◌, Bool, true, false, not, List, [], ◌∷◌, ◌++◌, length, replicate, filter, ◌==◌, nat_le, nat_lt, slice_index_or, slice_set}
use Rattle.std.specs.List.{prefix_len}
use Rattle.rules.specs.Limits.{first_block}
use Rattle.model.specs.Sums.{bit, sum}
use Rattle.model.specs.declared.types.Ptr.{Ptr}
use Rattle.model.specs.declared.types.Slot.{Slot}
use Rattle.model.specs.declared.types.Slot.TheVariants.{Empty, At}
use Rattle.model.specs.declared.types.Use.{Use}
use Rattle.model.specs.declared.types.Use.TheVariants.{Reserved, Free, Used, Freed}

-- THE RULE by which blocks become free. A list has blocks that some hold, or a disk's present, no longer shows, and the moment is that of
-- the hold before: what was born after it that hold can't show, so it becomes free; what was born up to it is only gone.
abbrev pub frees : (moment : ℕ) → List Ptr → List Ptr
frees m ps = filter (λ p. nat_lt m p.birth) ps

abbrev pub keeps : (moment : ℕ) → List Ptr → List Ptr
keeps m ps = filter (λ p. not (nat_lt m p.birth)) ps

-- how often a block stands in a list, and whether it does
abbrev pub is : ℕ → Ptr → ℕ
is b p = bit (p.block == b)

abbrev pub has : ℕ → List Ptr → Bool
has b ps = nat_lt 0 (sum (is b) ps)

abbrev pub is_reserved : Use → Bool
is_reserved Reserved = true
is_reserved Free = false
is_reserved Used = false
is_reserved Freed = false

abbrev pub is_free : Use → Bool
is_free Reserved = false
is_free Free = true
is_free Used = false
is_free Freed = false

abbrev pub is_used : Use → Bool
is_used Reserved = false
is_used Free = false
is_used Used = true
is_used Freed = false

-- neither reserved nor in use: it may be used, now or after the next sync
abbrev pub is_spare : Use → Bool
is_spare Reserved = false
is_spare Free = true
is_spare Used = false
is_spare Freed = true

-- what a block is for; past the device there is none to use
abbrev pub use_at : ℕ → List Use → Use
use_at b us = slice_index_or us b Reserved

abbrev pub used_at : ℕ → List Use → Bool
used_at b us = is_used (use_at b us)

-- the lowest block that may be used, or how many blocks there are
abbrev pub lowest_in : List Use → ℕ
lowest_in us = prefix_len (λ u. not (is_free u)) us

abbrev pub is_full : List Use → Bool
is_full us = nat_le (length us) (lowest_in us)

-- how many blocks may be used
abbrev pub usable : List Use → ℕ
usable us = length (filter is_free us)

-- how many blocks aren't in use, those that wait for the next sync among them
abbrev pub spare : List Use → ℕ
spare us = length (filter is_spare us)

-- the blocks of a list become free; they may be used after the next sync
unfoldable pub free_all : List Ptr → List Use → List Use
free_all [] us = us
free_all (p ∷ ps) us = free_all ps (slice_set us p.block Freed)

-- a slot shows its block
abbrev pub used_by : Slot → List Use → List Use
used_by Empty us = us
used_by (At p) us = slice_set us p.block Used

-- a sync is answered: what became free since the last one may be used
abbrev pub renew : Use → Use
renew Reserved = Reserved
renew Free = Free
renew Used = Used
renew Freed = Free

-- a device of n blocks on which nothing is shown
abbrev pub unused : ℕ → List Use
unused n = replicate first_block Reserved ++ replicate (n - first_block) Free
