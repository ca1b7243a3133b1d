-- What is held once a line that was lent is given back. Assumes nothing.
use Rattle.std.specs.Prelude.{◌≤◌, vec_len}
use Rattle.std.specs.Borrow.{MutBor, Fml}
use Rattle.std.specs.Io.BufRead.{Rests}
use Rattle.input.specs.Pieces.{most}
use Rattle.input.specs.declared.buffer.LineBuffer.{LineBuffer}
use Rattle.input.specs.contracts.buffer.LineBuffer.{the_row}

abbrev pub KeepsFew : MutBor LineBuffer → Fml
KeepsFew s = Rests the_row s (λ b. vec_len b.bytes ≤ most)
