use Rattle.model.proofs.Timing.{marking}
use Rattle.model.proofs.laws.marks_right.Goals as goal

pub returns : goal.returns
returns c = marking
