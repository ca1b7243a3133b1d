-- The limits of a volume. Assumes nothing.
use Rattle.std.specs.Prelude.{ℕ, ◌^◌, cond, ◌||◌, Some, None, Option, nat_lt}

-- Blocks below this one are two roots and two areas.
abbrev pub first_block : ℕ
first_block = 514

abbrev pub least_blocks : ℕ
least_blocks = 1024

abbrev pub most_blocks : ℕ
most_blocks = 65536

-- A volume has 1,024 to 65,536 blocks.
abbrev pub volume_of : ℕ → Option ℕ
volume_of n = cond (nat_lt n 1024 || nat_lt 65536 n) None (Some n)

abbrev pub most_disks : ℕ
most_disks = 8

-- of a disk
abbrev pub most_holds : ℕ
most_holds = 16

abbrev pub most_slots : ℕ
most_slots = 1024

-- An area has 256 blocks of 4,096 bytes.
abbrev pub block_bytes : ℕ
block_bytes = 4096

abbrev pub area_room : ℕ
area_room = 1048576

-- Moments, and the number of a volume, have 8 bytes, and names 4.
abbrev pub moment_end : ℕ
moment_end = 2 ^ 64

abbrev pub name_end : ℕ
name_end = 2 ^ 32
