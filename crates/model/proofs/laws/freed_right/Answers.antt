use Rattle.model.proofs.Told.{freed-right}
use Rattle.model.proofs.laws.freed_right.Goals as goal

pub returns : goal.returns
returns c = freed-right
