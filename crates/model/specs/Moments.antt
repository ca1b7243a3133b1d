-- Moments count the changes; and marks tell which disk goes on from which hold. Assumes nothing.
use Rattle.std.specs.Prelude.{◌≡◌, ℕ, ◌+◌, List, length, Some, None, Ok, Option}
use Rattle.model.specs.Blocks.{lowest_in}
use Rattle.model.specs.Calls.{Stream, read, Call, write, clear, hold, release, copy, new, drop, take, sync, ask, Value, name, slot}
use Rattle.model.specs.Holds.{find}
use Rattle.model.specs.Maps.{Map}
use Rattle.model.specs.Runs.{step, reached}
use Rattle.model.specs.Tests.{front}
use Rattle.model.specs.Volume.{Volume, of_disk}
use Rattle.model.specs.declared.types.Mark.{Mark}
use Rattle.model.specs.declared.types.Slot.TheVariants.{At}

-- how many moments a call takes that is done
abbrev pub moments : Call → ℕ
moments (write d s bs) = 1
moments (clear d s) = 1
moments (hold d) = 1
moments (release h) = 1
moments (copy h) = 1
moments new = 1
moments (drop d) = 1
moments (take d st) = length (front 0 st.changes) + 1
moments sync = 0
moments (ask q) = 0

-- A write takes the lowest block that may be used, born at this moment; a hold is made at this moment, and shows what its disk shows.
pub record Timed (v : Volume) : Type 0 where
  pub counted : (c : Call) (a : Value) → (step c v).answer ≡ Ok a → (step c v).leaves.moment ≡ v.moment + moments c
  pub born : (d s : ℕ) (bs : List ℕ) (a : Value) → (step (write d s bs) v).answer ≡ Ok a →
      (step (ask (read d s)) (step (write d s bs) v).leaves).answer ≡ Ok (slot (At (record { block = lowest_in v.uses; birth = v.moment })))
  pub made : (d n : ℕ) (m : Map) → (step (hold d) v).answer ≡ Ok (name n) → of_disk (λ e. e.shows) d v.disks ≡ Some m →
      find n (step (hold d) v).leaves.disks ≡ Some (record { moment = v.moment; shows = m })

abbrev pub Timing : Type 0
Timing = (blocks number : ℕ) (calls : List Call) → Timed (reached blocks number calls)

-- a disk's mark, if there is such a disk
abbrev pub mark_in : ℕ → Volume → Option (Option Mark)
mark_in y v = of_disk (λ d. d.mark) y v.disks

-- a call doesn't write or drop a disk
abbrev pub Spares : Call → (disk : ℕ) → Type 0
Spares (write d s bs) y = d ≡ y → ⊥
Spares (clear d s) y = d ≡ y → ⊥
Spares (hold d) y = Unit {0}
Spares (release h) y = Unit {0}
Spares (copy h) y = Unit {0}
Spares new y = Unit {0}
Spares (drop d) y = d ≡ y → ⊥
Spares (take d st) y = d ≡ y → ⊥
Spares sync y = Unit {0}
Spares (ask q) y = Unit {0}

-- A disk that took a stream has the mark of its newer hold until it is written, and then none; a new disk and a copy have none.
pub record Marked (v : Volume) : Type 0 where
  pub taken : (d : ℕ) (st : Stream) (a : Value) → (step (take d st) v).answer ≡ Ok a → mark_in d (step (take d st) v).leaves ≡ Some (Some st.newer)
  pub written : (d s : ℕ) (bs : List ℕ) (a : Value) → (step (write d s bs) v).answer ≡ Ok a → mark_in d (step (write d s bs) v).leaves ≡ Some None
  pub cleared : (d s : ℕ) (a : Value) → (step (clear d s) v).answer ≡ Ok a → mark_in d (step (clear d s) v).leaves ≡ Some None
  pub copied : (h n : ℕ) → (step (copy h) v).answer ≡ Ok (name n) → mark_in n (step (copy h) v).leaves ≡ Some None
  pub new : (n : ℕ) → (step new v).answer ≡ Ok (name n) → mark_in n (step new v).leaves ≡ Some None
  pub left : (c : Call) (y : ℕ) (m : Option Mark) → Spares c y → mark_in y v ≡ Some m → mark_in y (step c v).leaves ≡ Some m

abbrev pub Marking : Type 0
Marking = (blocks number : ℕ) (calls : List Call) → Marked (reached blocks number calls)
