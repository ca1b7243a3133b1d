-- What the lists of gone blocks say. Assumes nothing.
use Rattle.std.specs.Prelude.{◌≡◌, ℕ, zero, suc, ◌≤◌, List, [], ◌∷◌, length, Some}
use mathlib.Core.List.{Memᴰ}
use Rattle.model.specs.Blocks.{is}
use Rattle.model.specs.Calls.{Call}
use Rattle.model.specs.Holds.{Past, find, base}
use Rattle.model.specs.Maps.{Map, look_in}
use Rattle.model.specs.Runs.{reached}
use Rattle.model.specs.Steps.{gone_at}
use Rattle.model.specs.Sums.{sum}
use Rattle.model.specs.Volume.{Hold, Disk, Volume}
use Rattle.model.specs.declared.types.HoldHead.{HoldHead}
use Rattle.model.specs.declared.types.Ptr.{Ptr}
use Rattle.model.specs.declared.types.Slot.TheVariants.{At}

-- a map shows a block in some slot, and a list has it
abbrev pub Shows : Map → ℕ → Type 0
Shows m b = (s : ℕ) × (p : Ptr) × (look_in s m ≡ At p) × (p.block ≡ b)

abbrev pub Has : List Ptr → ℕ → Type 0
Has g b = (p : Ptr) × Memᴰ p g × (p.block ≡ b)

-- A list has exactly the blocks that a map q shows and a map m doesn't, each once.
pub record Lists (q m : Map) (g : List Ptr) (b : ℕ) : Type 0 where
  pub once : sum (is b) g ≤ 1
  pub before : Has g b → Shows q b
  pub after : Has g b → Shows m b → ⊥
  pub every : Shows q b → (Shows m b → ⊥) → Has g b

-- what the hold at a place shows, or the present behind the last; and what the one before it shows, which is q before the oldest
abbrev pub map_at : ℕ → List Hold → Map → Map
map_at j [] m = m
map_at zero (h ∷ hs) m = h.shows
map_at (suc j) (h ∷ hs) m = map_at j hs m

abbrev pub map_before : Map → ℕ → List Hold → Map
map_before q zero hs = q
map_before q (suc j) [] = q
map_before q (suc j) (h ∷ hs) = map_before h.shows j hs

-- Gone of each hold of a disk, and of its present, is right; before the oldest comes the hold that the disk was copied from, which is there.
pub record GoneIsRight (v : Volume) (d : Disk) : Type 0 where
  pub lists : (j b : ℕ) → j ≤ length d.holds → Lists (map_before (base v.disks d.from).shows j d.holds) (map_at j d.holds d.shows) (gone_at j d.holds d.gone) b
  pub origin : (o : HoldHead) → d.from ≡ Some o → (p : Past) × (find o.name v.disks ≡ Some p) × (p.moment ≡ o.moment)

abbrev pub GoneRight : Type 0
GoneRight = (blocks number : ℕ) (calls : List Call) (d : Disk) → let v = reached blocks number calls in Memᴰ d v.disks → GoneIsRight v d
