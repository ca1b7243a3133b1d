-- Why a call is refused; that a refusal changes nothing; and what the tests mean by which calls are refused. Assumes nothing.
use Rattle.std.specs.Prelude.{◌≡◌, ℕ, ◌<◌, ◌≤◌, true, false, not, [], Some, None, Ok, Err, Decides, ◌≢◌}
use mathlib.Core.List.{Memᴰ}
use Rattle.rules.specs.Refusals.{number_of}
use Rattle.rules.specs.declared.refusal.Refusal.{Refusal}
use Rattle.model.specs.Blocks.{use_at, lowest_in, is_full}
use Rattle.model.specs.Calls.{Stream, Call, Value}
use Rattle.model.specs.Runs.{reasons, does, step}
use Rattle.model.specs.Tests.{no_disk, no_holder, changes_rise, follows, unfit}
use Rattle.model.specs.Volume.{Hold, Disk, Volume, is_copied}
use Rattle.model.specs.declared.types.HoldHead.{HoldHead}
use Rattle.model.specs.declared.types.Mark.{Mark}
use Rattle.model.specs.declared.types.Use.TheVariants.{Free}

abbrev pub Applies : Refusal → Call → Volume → Type 0
Applies r c v = Memᴰ (r, true) (reasons c v)

pub record Judged (c : Call) (v : Volume) : Type 0 where
  -- a call that is refused leaves the volume as it was, and writes nothing
  pub unchanged : (r : Refusal) → (step c v).answer ≡ Err r → ((step c v).leaves ≡ v) × ((step c v).puts ≡ [])
  -- its number applies, and none that is lower does
  pub applies : (r : Refusal) → (step c v).answer ≡ Err r → Applies r c v
  pub lowest : (r s : Refusal) → (step c v).answer ≡ Err r → Applies s c v → number_of r ≤ number_of s
  -- where some number applies the call is refused, and where none does it is done, and answered
  pub refused : (s : Refusal) → Applies s c v → (r : Refusal) × ((step c v).answer ≡ Err r)
  pub done : ((s : Refusal) → Applies s c v → ⊥) → (step c v ≡ does c v) × ((a : Value) × ((step c v).answer ≡ Ok a))

abbrev pub Judgement : Type 0
Judgement = (c : Call) (v : Volume) → Judged c v

-- What the tests mean, by the names that disks and holds have, and by what each block is for.
pub record Meant (v : Volume) : Type 0 where
  pub disk : (d : ℕ) → Decides (no_disk d v) ((e : Disk) → Memᴰ e v.disks → e.name ≢ d)
  pub hold : (h : ℕ) → Decides (no_holder h v) ((e : Disk) (k : Hold) → Memᴰ e v.disks → Memᴰ k e.holds → k.name ≢ h)
  pub copied : (h : ℕ) → Decides (is_copied h v.disks) ((e : Disk) × (o : HoldHead) × Memᴰ e v.disks × (e.from ≡ Some o) × (o.name ≡ h))
  pub full : Decides (is_full v.uses) ((b : ℕ) → use_at b v.uses ≢ Free)
  -- the block that is written may be used, and no lower one may
  pub chosen : is_full v.uses ≡ false → (use_at (lowest_in v.uses) v.uses ≡ Free) × ((b : ℕ) → b < lowest_in v.uses → use_at b v.uses ≢ Free)
  -- a stream is taken if it is whole, its slots rise, and it goes on from what the disk has
  pub fit : (st : Stream) (d : Disk) → Decides (not (unfit st d)) ((st.whole ≡ true) × (changes_rise st.changes ≡ true) × (follows st.older d ≡ true))
  -- a stream that goes on from a mark is for a disk that has this mark, and one from nothing for a disk that is new and empty
  pub marked : (m : Mark) (d : Disk) → Decides (follows (Some m) d) (d.mark ≡ Some m)
  pub begun : (d : Disk) → Decides (follows None d) ((d.from ≡ None) × (d.mark ≡ None) × (d.holds ≡ []) × (d.shows ≡ []))

abbrev pub Meaning : Type 0
Meaning = (v : Volume) → Meant v
