-- Holds stay as they are, and no name is given twice. Assumes nothing.
use Rattle.std.specs.Prelude.{◌≡◌, ℕ, ◌+◌, ◌<◌, ◌≤◌, List, Some, Ok, ◌≢◌}
use Rattle.std.specs.List.{AllByRecursion}
use Rattle.model.specs.Calls.{Call, release, drop, name, done}
use Rattle.model.specs.Holds.{Past, find, names_in}
use Rattle.model.specs.Maps.{look_in}
use Rattle.model.specs.Runs.{step, run, reached}
use Rattle.model.specs.Store.{Bytes, plays, stored}
use Rattle.model.specs.Sums.{sum}
use Rattle.model.specs.Volume.{Volume}
use Rattle.model.specs.declared.types.Ptr.{Ptr}
use Rattle.model.specs.declared.types.Slot.TheVariants.{At}

-- Whatever calls come, as long as none is its own release: a hold is there under its name, with its moment and all that it shows, and the
-- bytes of each block that it shows are what they were.
abbrev pub HoldsStay : Type 0
HoldsStay = (blocks number : ℕ) (bytes : Bytes) (calls more : List Call) (x : ℕ) (p : Past) → let s = stored blocks number bytes calls in let t = plays more s in
    find x s.volume.disks ≡ Some p → AllByRecursion (λ c. c ≢ release x) more →
    (find x t.volume.disks ≡ Some p) × ((j : ℕ) (r : Ptr) → look_in j p.shows ≡ At r → t.bytes r.block ≡ s.bytes r.block)

-- how many disks and holds have a name
abbrev pub times : ℕ → Volume → ℕ
times x v = sum (names_in x) v.disks

-- No two disks or holds have one name; each name is below the next; what is new has the next name, which the answer tells; and a name
-- that was given and is gone never comes back.
pub record Named (v : Volume) : Type 0 where
  pub once : (x : ℕ) → times x v ≤ 1
  pub below : (x : ℕ) → 0 < times x v → x < v.names
  pub fresh : (c : Call) (x : ℕ) → times x v ≡ 0 → 0 < times x (step c v).leaves → (x ≡ v.names) × ((step c v).leaves.names ≡ v.names + 1)
  pub told : (c : Call) (x : ℕ) → (step c v).answer ≡ Ok (name x) → (x ≡ v.names) × (times x (step c v).leaves ≡ 1)
  pub released : (x : ℕ) → (step (release x) v).answer ≡ Ok done → times x (step (release x) v).leaves ≡ 0
  pub dropped : (x : ℕ) → (step (drop x) v).answer ≡ Ok done → times x (step (drop x) v).leaves ≡ 0
  pub never : (more : List Call) (x : ℕ) → x < v.names → times x v ≡ 0 → times x (run more v) ≡ 0

abbrev pub NamesOnce : Type 0
NamesOnce = (blocks number : ℕ) (calls : List Call) → Named (reached blocks number calls)
