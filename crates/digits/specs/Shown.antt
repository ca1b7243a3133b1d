-- Bytes that are written in hexadecimal. Assumes nothing.
use Rattle.std.specs.Prelude.{ℕ, List}
use Rattle.digits.specs.declared.show.Shown.{Shown}

abbrev pub shown_bytes : Shown → List ℕ
shown_bytes s = s.bytes.now
