-- Exactly the blocks are in use that some disk or hold shows. Assumes nothing.
use Rattle.std.specs.Prelude.{◌≡◌, ℕ, ◌<◌, ◌≤◌, Bool, true, ◌||◌, List, length}
use mathlib.Core.List.{Memᴰ}
use Rattle.std.specs.List.{list_any}
use Rattle.rules.specs.Limits.{first_block}
use Rattle.model.specs.Blocks.{has, used_at}
use Rattle.model.specs.Calls.{Call}
use Rattle.model.specs.Maps.{look_in, shown_by}
use Rattle.model.specs.Runs.{reached}
use Rattle.model.specs.Volume.{Hold, Disk, Volume}
use Rattle.model.specs.declared.types.Ptr.{Ptr}
use Rattle.model.specs.declared.types.Slot.TheVariants.{At}

-- some slot of some disk or hold shows the block
pub data Shown (v : Volume) (b : ℕ) : Type 0 where
  by_disk : (d : Disk) (s : ℕ) (p : Ptr) → Memᴰ d v.disks → look_in s d.shows ≡ At p → p.block ≡ b → Shown v b
  by_hold : (d : Disk) (h : Hold) (s : ℕ) (p : Ptr) → Memᴰ d v.disks → Memᴰ h d.holds → look_in s h.shows ≡ At p → p.block ≡ b → Shown v b

-- a count from nothing: is the block in some map
abbrev pub in_holds : ℕ → List Hold → Bool
in_holds b hs = list_any (λ h. has b (shown_by h.shows)) hs

abbrev pub recount : ℕ → List Disk → Bool
recount b ds = list_any (λ d. has b (shown_by d.shows) || in_holds b d.holds) ds

-- A block is in use if and only if it is shown; that is what a count from nothing finds; and it is none of the roots' and areas' blocks,
-- and a block of the device.
pub record Exact (v : Volume) (b : ℕ) : Type 0 where
  pub shown : used_at b v.uses ≡ true → Shown v b
  pub used : Shown v b → used_at b v.uses ≡ true
  pub counted : used_at b v.uses ≡ recount b v.disks
  pub inside : used_at b v.uses ≡ true → (first_block ≤ b) × (b < length v.uses)

abbrev pub Exactly : Type 0
Exactly = (blocks number : ℕ) (calls : List Call) (b : ℕ) → Exact (reached blocks number calls) b
