-- Calls, and what comes of one. Assumes nothing.
use Rattle.std.specs.Prelude.{ℕ, Bool, List, Option, Result}
use Rattle.rules.specs.declared.refusal.Refusal.{Refusal}
use Rattle.model.specs.Steps.{Change, Put}
use Rattle.model.specs.Volume.{Volume}
use Rattle.model.specs.declared.types.Mark.{Mark}
use Rattle.model.specs.declared.types.Slot.{Slot}

-- A stream as it was read: the mark of the older hold, or none for a stream from nothing; the mark of the newer; the changes, as far as
-- they could be read; and whether that is all of it, with nothing behind.
pub record Stream : Type 0 where
  pub older : Option Mark
  pub newer : Mark
  pub changes : List Change
  pub whole : Bool

-- What is asked and changes nothing. A disk, hold or slot is named by any number.
pub data Query : Type 0 where
  would : (hold : ℕ) → Query
  read : (disk slot : ℕ) → Query
  readhold : (hold slot : ℕ) → Query
  free : Query

pub data Call : Type 0 where
  write : (disk slot : ℕ) (bytes : List ℕ) → Call
  clear : (disk slot : ℕ) → Call
  hold : (disk : ℕ) → Call
  release : (hold : ℕ) → Call
  copy : (hold : ℕ) → Call
  new : Call
  drop : (disk : ℕ) → Call
  take : (disk : ℕ) → Stream → Call
  sync : Call
  ask : Query → Call

-- What a call answers where it isn't refused: nothing more, a new name, how many, or what a slot shows, whose bytes are then read.
pub data Value : Type 0 where
  done : Value
  name : ℕ → Value
  count : ℕ → Value
  slot : Slot → Value

abbrev pub Answer : Type 0
Answer = Result Value Refusal

-- What comes of a call: the volume after it, the answer, and the blocks that are written.
pub record Done : Type 0 where
  pub leaves : Volume
  pub answer : Answer
  pub puts : List Put
