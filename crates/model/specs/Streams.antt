-- Streams: what changed between two holds of one disk, found by births; and a disk that takes it. Assumes nothing.
use Rattle.std.specs.Prelude.{◌≡◌, ℕ, zero, suc, ◌<◌, Bool, true, false, cond, List, [], ◌∷◌, length, Some, None, Ok, Err, Option, Result, ◌≢◌, nat_lt}
use mathlib.Core.List.{Memᴰ}
use Rattle.rules.specs.Limits.{most_slots}
use Rattle.rules.specs.declared.refusal.Refusal.{Refusal}
use Rattle.rules.specs.declared.refusal.Refusal.TheVariants.{Unfit}
use Rattle.model.specs.Calls.{Call, take, read, Value, done, name, count, slot, Answer, Stream, ask}
use Rattle.model.specs.Holds.{Past, past, past_of}
use Rattle.model.specs.Maps.{Map, look_in}
use Rattle.model.specs.Refusals.{Applies}
use Rattle.model.specs.Runs.{step}
use Rattle.model.specs.Steps.{change}
use Rattle.model.specs.Steps.{Change}
use Rattle.model.specs.Store.{Bytes, Store, play, stored}
use Rattle.model.specs.Tests.{changes_rise}
use Rattle.model.specs.Volume.{Disk, disk_at, hold_at, place_of}
use Rattle.model.specs.declared.types.Mark.{Mark}
use Rattle.model.specs.declared.types.Slot.{Slot}
use Rattle.model.specs.declared.types.Slot.TheVariants.{Empty, At}

-- what a slot has: the bytes of its block, or nothing
abbrev pub content : Bytes → Slot → Option (List ℕ)
content f Empty = None
content f (At p) = Some (f p.block)

-- A slot is in the stream if it shows a block born after the older hold's moment in the newer, or nothing where it showed one in the older.
abbrev pub differs : (moment : ℕ) → (old new : Slot) → Bool
differs k old (At p) = nat_lt k p.birth
differs k Empty Empty = false
differs k (At q) Empty = true

-- by rising slot: so many, from one on
unfoldable pub changes_from : (slot many : ℕ) → Bytes → (moment : ℕ) → (old new : Map) → List Change
changes_from s zero f k old new = []
changes_from s (suc n) f k old new =
    let rest = changes_from (suc s) n f k old new in
    cond (differs k (look_in s old) (look_in s new)) (change s (content f (look_in s new)) ∷ rest) rest

abbrev pub mark_of : Store → Past → Mark
mark_of t p = record { number = t.volume.number; moment = p.moment }

abbrev pub older_mark : Store → Option Past → Option Mark
older_mark t None = None
older_mark t (Some p) = Some (mark_of t p)

-- the stream from an older hold, or from nothing, to a newer one
abbrev pub stream_of : Store → Option Past → Past → Stream
stream_of t older newer =
    record {
      older = older_mark t older;
      newer = mark_of t newer;
      changes = changes_from 0 most_slots t.bytes (past_of older).moment (past_of older).shows newer.shows;
      whole = true;
    }

-- two holds of one disk, the older first; or nothing, and a hold
pub data Ordered (d : Disk) (newer : Past) : Option Past → Type 0 where
  from_nothing : (b : ℕ) → b < length d.holds → newer ≡ past (hold_at b d.holds) → Ordered d newer None
  from_hold : (a b : ℕ) (older : Past) → a < b → b < length d.holds → older ≡ past (hold_at a d.holds) → newer ≡ past (hold_at b d.holds) → Ordered d newer (Some older)

-- NOTHING ELSE is in a stream: its slots rise, each with what the newer hold has there, and none shows the same block in both holds. And
-- nothing is left out: each other slot shows the same in both.
pub record Carries (t : Store) (older : Option Past) (newer : Past) : Type 0 where
  pub rises : changes_rise (stream_of t older newer).changes ≡ true
  pub bytes : (c : Change) → Memᴰ c (stream_of t older newer).changes → c.bytes ≡ content t.bytes (look_in c.slot newer.shows)
  pub least : (c : Change) → Memᴰ c (stream_of t older newer).changes → look_in c.slot (past_of older).shows ≢ look_in c.slot newer.shows
  pub every : (s : ℕ) → s < most_slots → ((c : Change) → Memᴰ c (stream_of t older newer).changes → c.slot ≢ s) → look_in s (past_of older).shows ≡ look_in s newer.shows

abbrev pub StreamsCarry : Type 0
StreamsCarry = (blocks number : ℕ) (bytes : Bytes) (calls : List Call) (d : Disk) (older : Option Past) (newer : Past) → let t = stored blocks number bytes calls in
    Memᴰ d t.volume.disks → Ordered d newer older → Carries t older newer

-- what a read of a disk's slot finds: bytes, or nothing
abbrev pub found_by : Bytes → Answer → Result (Option (List ℕ)) Refusal
found_by f (Ok done) = Ok None
found_by f (Ok (name n)) = Ok None
found_by f (Ok (count n)) = Ok None
found_by f (Ok (slot x)) = Ok (content f x)
found_by f (Err r) = Err r

abbrev pub finds : (disk slot : ℕ) → Store → Result (Option (List ℕ)) Refusal
finds y s u = found_by u.bytes (step (ask (read y s)) u.volume).answer

-- Two volumes: t sends and u takes. A disk of u that has in each slot what the older hold has, or nothing, has after it in each slot what the
-- newer hold has, and its mark; the answer tells how many slots the stream has; and the same stream isn't taken twice.
pub record Takes (t u : Store) (older : Option Past) (newer : Past) (y : ℕ) (a : Value) : Type 0 where
  pub right : ((s : ℕ) → s < most_slots → finds y s u ≡ Ok (content t.bytes (look_in s (past_of older).shows))) →
      (s : ℕ) → s < most_slots → finds y s (play (take y (stream_of t older newer)) u) ≡ Ok (content t.bytes (look_in s newer.shows))
  pub mark : let ds = (play (take y (stream_of t older newer)) u).volume.disks in (disk_at (place_of y ds) ds).mark ≡ Some (mark_of t newer)
  pub told : a ≡ count (length (stream_of t older newer).changes)
  -- a stream from nothing is only taken by a disk that has nothing
  pub begun : older ≡ None → (s : ℕ) → s < most_slots → finds y s u ≡ Ok None
  pub twice : let v = (play (take y (stream_of t older newer)) u).volume in Applies Unfit (take y (stream_of t older newer)) v × ((r : Refusal) × ((step (take y (stream_of t older newer)) v).answer ≡ Err r))

abbrev pub StreamsTaken : Type 0
StreamsTaken = (blocks number blocks' number' : ℕ) (bytes bytes' : Bytes) (calls calls' : List Call) (d : Disk) (older : Option Past) (newer : Past) (y : ℕ) (a : Value) →
    let t = stored blocks number bytes calls in let u = stored blocks' number' bytes' calls' in
    Memᴰ d t.volume.disks → Ordered d newer older → (step (take y (stream_of t older newer)) u.volume).answer ≡ Ok a → Takes t u older newer y a
