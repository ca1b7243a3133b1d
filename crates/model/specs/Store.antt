-- A volume with the bytes of its blocks. Assumes nothing.
use Rattle.std.specs.Prelude.{ℕ, cond, List, [], ◌∷◌, replicate, ◌==◌}
use Rattle.rules.specs.Limits.{block_bytes}
use Rattle.model.specs.Calls.{Call}
use Rattle.model.specs.Runs.{step}
use Rattle.model.specs.Steps.{Put, start}
use Rattle.model.specs.Volume.{Volume}
use Rattle.model.specs.declared.types.Slot.{Slot}
use Rattle.model.specs.declared.types.Slot.TheVariants.{Empty, At}

-- what each block has
abbrev pub Bytes : Type 0
Bytes = ℕ → List ℕ

abbrev pub laid : List Put → Bytes → Bytes
laid [] f b = f b
laid (p ∷ ps) f b = laid ps (λ c. cond (p.block == c) p.bytes (f c)) b

-- a volume on its blocks
pub record Store : Type 0 where
  pub volume : Volume
  pub bytes : Bytes

abbrev pub play : Call → Store → Store
play c s = let d = step c s.volume in record { volume = d.leaves; bytes = laid d.puts s.bytes }

abbrev pub plays : List Call → Store → Store
plays [] s = s
plays (c ∷ cs) s = plays cs (play c s)

-- the same after a list of calls, from a format on, whatever bytes the device had before
abbrev pub stored : (blocks number : ℕ) → Bytes → List Call → Store
stored n number f calls = plays calls (record { volume = start n number; bytes = f })

-- the bytes of a slot: an empty one reads as zeros
abbrev pub bytes_of : Bytes → Slot → List ℕ
bytes_of f Empty = replicate block_bytes 0
bytes_of f (At p) = f p.block
