use Rattle.model.proofs.Reading.{reads-right}
use Rattle.model.proofs.laws.reads_right.Goals as goal

pub returns : goal.returns
returns c = reads-right
