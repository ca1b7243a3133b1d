-- What reads answer, and what calls do to that. Assumes nothing.
use Rattle.std.specs.Prelude.{◌≡◌, ℕ, ◌<◌, List, [], replicate, Ok, Err, Result, ◌≢◌}
use Rattle.std.specs.List.{AllByRecursion}
use Rattle.rules.specs.Limits.{most_slots, block_bytes}
use Rattle.rules.specs.declared.refusal.Refusal.{Refusal}
use Rattle.model.specs.Calls.{Call, write, clear, hold, release, copy, new, drop, take, sync, read, readhold, done, name, count, slot, Answer, ask}
use Rattle.model.specs.Runs.{step}
use Rattle.model.specs.Store.{Bytes, Store, play, stored, bytes_of}

-- the bytes that a read answers, or its refusal
abbrev pub read_by : Bytes → Answer → Result (List ℕ) Refusal
read_by f (Ok done) = Ok []
read_by f (Ok (name n)) = Ok []
read_by f (Ok (count n)) = Ok []
read_by f (Ok (slot x)) = Ok (bytes_of f x)
read_by f (Err r) = Err r

abbrev pub reads : (disk slot : ℕ) → Store → Result (List ℕ) Refusal
reads d s t = read_by t.bytes (step (ask (read d s)) t.volume).answer

abbrev pub reads_hold : (hold slot : ℕ) → Store → Result (List ℕ) Refusal
reads_hold h s t = read_by t.bytes (step (ask (readhold h s)) t.volume).answer

abbrev pub zeros : List ℕ
zeros = replicate block_bytes 0

-- a call leaves a slot of a disk alone
abbrev pub Leaves : Call → (disk slot : ℕ) → Type 0
Leaves (write d s bs) y j = d ≡ y → s ≢ j
Leaves (clear d s) y j = d ≡ y → s ≢ j
Leaves (hold d) y j = Unit {0}
Leaves (release h) y j = Unit {0}
Leaves (copy h) y j = Unit {0}
Leaves new y j = Unit {0}
Leaves (drop d) y j = d ≡ y → ⊥
Leaves (take d st) y j = d ≡ y → AllByRecursion (λ c. c.slot ≢ j) st.changes
Leaves sync y j = Unit {0}
Leaves (ask q) y j = Unit {0}

pub record Reading (t : Store) : Type 0 where
  -- what was written is read; a slot that was cleared, and each slot of a new disk, reads zeros
  pub written : (d s : ℕ) (bs : List ℕ) → (step (write d s bs) t.volume).answer ≡ Ok done → reads d s (play (write d s bs) t) ≡ Ok bs
  pub cleared : (d s : ℕ) → (step (clear d s) t.volume).answer ≡ Ok done → reads d s (play (clear d s) t) ≡ Ok zeros
  pub empty : (n j : ℕ) → (step new t.volume).answer ≡ Ok (name n) → j < most_slots → reads n j (play new t) ≡ Ok zeros
  -- a hold reads as its disk, and a copy as its hold
  pub held : (d n j : ℕ) → (step (hold d) t.volume).answer ≡ Ok (name n) → reads_hold n j (play (hold d) t) ≡ reads d j t
  pub copied : (h n j : ℕ) → (step (copy h) t.volume).answer ≡ Ok (name n) → reads n j (play (copy h) t) ≡ reads_hold h j t
  -- everything else reads as before
  pub left : (c : Call) (y j : ℕ) (bs : List ℕ) → Leaves c y j → reads y j t ≡ Ok bs → reads y j (play c t) ≡ Ok bs
  pub stays : (c : Call) (x j : ℕ) (bs : List ℕ) → (c ≢ release x) → reads_hold x j t ≡ Ok bs → reads_hold x j (play c t) ≡ Ok bs

abbrev pub ReadsRight : Type 0
ReadsRight = (blocks number : ℕ) (bytes : Bytes) (calls : List Call) → Reading (stored blocks number bytes calls)
