use Rattle.std.proofs.Common.{◌≡◌, length}
use Rattle.digits.specs.HexText.{trimmed}
use Rattle.digits.proofs.show.Shown.of.Given as goal

abbrev pub invariant-loop-front : goal.invariant-loop-front
invariant-loop-front l = trimmed l.front ≡ trimmed l.bytes

abbrev pub decreases-loop-front : goal.decreases-loop-front
decreases-loop-front l = length l.front
