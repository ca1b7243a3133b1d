-- What becomes free, when, and from which list that is told. Assumes nothing.
use Rattle.std.specs.Prelude.{◌≡◌, ℕ, ◌+◌, ◌≤◌, Bool, true, false, List, [], ◌∷◌, length, Some, None, Ok, Err, ◌≢◌}
use mathlib.Core.List.{Memᴰ}
use Rattle.rules.specs.declared.refusal.Refusal.{Refusal}
use Rattle.rules.specs.declared.refusal.Refusal.TheVariants.{Spent}
use Rattle.model.specs.Blocks.{is, has, use_at, spare}
use Rattle.model.specs.Calls.{Call, write, clear, hold, release, copy, new, drop, take, sync, would, Value, done, count, ask}
use Rattle.model.specs.Exactly.{Shown}
use Rattle.model.specs.Runs.{step, reached}
use Rattle.model.specs.Steps.{change}
use Rattle.model.specs.Steps.{Put, freed_at, freed_by, freed_with, gone_after}
use Rattle.model.specs.Sums.{sum}
use Rattle.model.specs.Tests.{front}
use Rattle.model.specs.Volume.{Disk, Volume, disk_at, place_of, hold_place, holder_of, moment_before}
use Rattle.model.specs.declared.types.Ptr.{Ptr}
use Rattle.model.specs.declared.types.Use.{Use}
use Rattle.model.specs.declared.types.Use.TheVariants.{Reserved, Free, Used, Freed}

-- the blocks that become free by a call that is done
abbrev pub freed_in : Call → Volume → List Ptr
freed_in (write d s bs) v = freed_at (place_of d v.disks) (change s (Some bs) ∷ []) v
freed_in (clear d s) v = freed_at (place_of d v.disks) (change s None ∷ []) v
freed_in (hold d) v = []
freed_in (release h) v = let d = disk_at (holder_of h v.disks) v.disks in freed_by (hold_place h d.holds) d
freed_in (copy h) v = []
freed_in new v = []
freed_in (drop d) v = freed_with (disk_at (place_of d v.disks) v.disks)
freed_in (take d st) v = freed_at (place_of d v.disks) (front 0 st.changes) v
freed_in sync v = []
freed_in (ask q) v = []

-- Each block once; and exactly those that were shown before and aren't after. They wait for a sync.
pub record Frees (c : Call) (v : Volume) (b : ℕ) : Type 0 where
  pub once : sum (is b) (freed_in c v) ≤ 1
  pub shown : has b (freed_in c v) ≡ true → Shown v b
  pub gone : has b (freed_in c v) ≡ true → Shown (step c v).leaves b → ⊥
  pub every : Shown v b → (Shown (step c v).leaves b → ⊥) → has b (freed_in c v) ≡ true
  pub waits : has b (freed_in c v) ≡ true → use_at b (step c v).leaves.uses ≡ Freed

abbrev pub FreedRight : Type 0
FreedRight = (blocks number : ℕ) (calls : List Call) (c : Call) (a : Value) → let v = reached blocks number calls in (step c v).answer ≡ Ok a → (b : ℕ) → Frees c v b

-- What a block is for before a call and after it: a block goes from free to used, from used to freed, and no other way but by a sync.
abbrev pub may : Use → Use → Bool
may Reserved Reserved = true
may Reserved Free = false
may Reserved Used = false
may Reserved Freed = false
may Free Reserved = false
may Free Free = true
may Free Used = true
may Free Freed = false
may Used Reserved = false
may Used Free = false
may Used Used = true
may Used Freed = true
may Freed Reserved = false
may Freed Free = false
may Freed Used = false
may Freed Freed = true

pub record Turns (c : Call) (v : Volume) : Type 0 where
  pub calls : (c ≢ sync) → (b : ℕ) → may (use_at b v.uses) (use_at b (step c v).leaves.uses) ≡ true
  -- a sync makes what waits for it free, and leaves the rest
  pub syncs : (b : ℕ) → use_at b v.uses ≡ Freed → use_at b (step sync v).leaves.uses ≡ Free
  pub rests : (b : ℕ) → (use_at b v.uses ≢ Freed) → use_at b (step sync v).leaves.uses ≡ use_at b v.uses
  -- only a block that may be used is written, and it is then in use
  pub puts : (p : Put) → Memᴰ p (step c v).puts → (use_at p.block v.uses ≡ Free) × (use_at p.block (step c v).leaves.uses ≡ Used)

abbrev pub Turning : Type 0
Turning = (blocks number : ℕ) (calls : List Call) (c : Call) → Turns c (reached blocks number calls)

-- `would` tells how many blocks a release then frees: as many more aren't in use. It is refused as the release is; where it is answered, the
-- release can be refused for want of a moment only.
pub record Told (v : Volume) (h : ℕ) : Type 0 where
  pub counted : (n : ℕ) → (step (ask (would h)) v).answer ≡ Ok (count n) → n ≡ length (freed_in (release h) v)
  pub freed : (n : ℕ) → (step (ask (would h)) v).answer ≡ Ok (count n) → (step (release h) v).answer ≡ Ok done → spare (step (release h) v).leaves.uses ≡ spare v.uses + n
  pub refused : (r : Refusal) → (step (ask (would h)) v).answer ≡ Err r → (step (release h) v).answer ≡ Err r
  pub else : (n : ℕ) (r : Refusal) → (step (ask (would h)) v).answer ≡ Ok (count n) → (step (release h) v).answer ≡ Err r → r ≡ Spent

abbrev pub ToldBefore : Type 0
ToldBefore = (blocks number : ℕ) (calls : List Call) (h : ℕ) → Told (reached blocks number calls) h

-- A release looks at one list and one moment: two holds, of whatever volumes, free the same if gone of the one after each and the moment of
-- the one before each are the same.
abbrev pub holder : ℕ → Volume → Disk
holder h v = disk_at (holder_of h v.disks) v.disks

abbrev pub OneList : Type 0
OneList = (v w : Volume) (h k : ℕ) →
    gone_after (hold_place h (holder h v).holds) (holder h v) ≡ gone_after (hold_place k (holder k w).holds) (holder k w) →
    moment_before (hold_place h (holder h v).holds) (holder h v) ≡ moment_before (hold_place k (holder k w).holds) (holder k w) →
    freed_in (release h) v ≡ freed_in (release k) w
