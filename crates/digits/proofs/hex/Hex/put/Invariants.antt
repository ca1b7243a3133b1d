use Rattle.std.proofs.Common.{◌≡◌, ◌++◌, length, take, drop}
use Rattle.digits.specs.HexText.{bytes_of}
use Rattle.digits.proofs.hex.Hex.put.Given as goal

-- What is put, and what the digits that are left say, is what all of them say.
abbrev pub invariant-loop-byte : goal.invariant-loop-byte
invariant-loop-byte l = record {
  front : take l.byte-index l.block ++ bytes_of l.digits ≡ bytes_of l.initial.digits;
  back : drop l.byte-index l.block ≡ drop l.byte-index l.initial.block;
  same : length l.block ≡ length l.initial.block;
}
