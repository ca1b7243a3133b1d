-- What was accepted fits its bytes, and the limits can be reached. Assumes nothing.
use Rattle.std.specs.Prelude.{◌≡◌, ℕ, ◌<◌, ◌≤◌, List, [], length, replicate, Some, Ok, Err}
use mathlib.Core.List.{Memᴰ}
use Rattle.std.specs.List.{AllByRecursion}
use Rattle.rules.specs.Limits.{volume_of, first_block, most_blocks, most_slots, moment_end, name_end}
use Rattle.rules.specs.declared.refusal.Refusal.TheVariants.{Missing, TooMuch}
use Rattle.model.specs.Calls.{Call, write, hold, new, free, done, count, ask}
use Rattle.model.specs.Gone.{map_at}
use Rattle.model.specs.Runs.{step, reached}
use Rattle.model.specs.Sound.{Within}
use Rattle.model.specs.Steps.{gone_at}
use Rattle.model.specs.Volume.{Hold, Disk, Volume, disk_at}
use Rattle.model.specs.declared.types.Entry.{Entry}
use Rattle.model.specs.declared.types.Ptr.{Ptr}

-- a pointer, an entry and a hold with numbers that fit
abbrev pub PtrFits : Ptr → Type 0
PtrFits p = (first_block ≤ p.block) × (p.block < most_blocks) × (p.birth < moment_end)

abbrev pub EntryFits : Entry → Type 0
EntryFits e = (e.slot < most_slots) × PtrFits e.at

abbrev pub HoldFits : Hold → Type 0
HoldFits h = (h.name < name_end) × (h.moment < moment_end)

-- each map and each list of a disk, by its place, the present's behind the last hold
pub record DiskFits (d : Disk) : Type 0 where
  pub name : d.name < name_end
  pub holds : AllByRecursion HoldFits d.holds
  pub maps : (j : ℕ) → j ≤ length d.holds → (length (map_at j d.holds d.shows) ≤ most_slots) × AllByRecursion EntryFits (map_at j d.holds d.shows)
  pub lists : (j : ℕ) → j ≤ length d.holds → (length (gone_at j d.holds d.gone) ≤ most_slots) × AllByRecursion PtrFits (gone_at j d.holds d.gone)

-- From a format with numbers that fit, every call leaves a volume within its limits, all of whose numbers fit. It keeps its own number, and
-- has all the blocks of its device.
pub record Bounded (size number' : ℕ) (v : Volume) : Type 0 where
  pub within : Within v
  pub fits : (d : Disk) → Memᴰ d v.disks → DiskFits d
  pub number : v.number ≡ number'
  pub blocks : length v.uses ≡ size

abbrev pub LimitsKept : Type 0
LimitsKept = (blocks number : ℕ) (calls : List Call) → volume_of blocks ≡ Some blocks → number < moment_end → Bounded blocks number (reached blocks number calls)

-- Runs that reach the limits, and the call that would pass each: 8 disks, 16 holds, the last slot. Of 1,024 blocks all from 514 on are there
-- to be used.
abbrev pub eight_disks : Volume
eight_disks = reached 1024 7 (replicate 7 new)

abbrev pub sixteen_holds : Volume
sixteen_holds = reached 1024 7 (replicate 16 (hold 0))

pub record LimitsReached : Type 0 where
  pub disks : length eight_disks.disks ≡ 8
  pub ninth : (step new eight_disks).answer ≡ Err TooMuch
  pub holds : length (disk_at 0 sixteen_holds.disks).holds ≡ 16
  pub seventeenth : (step (hold 0) sixteen_holds).answer ≡ Err TooMuch
  pub last : (step (write 0 1023 []) sixteen_holds).answer ≡ Ok done
  pub past : (step (write 0 1024 []) sixteen_holds).answer ≡ Err Missing
  pub all : (step (ask free) (reached 1024 7 [])).answer ≡ Ok (count 510)
