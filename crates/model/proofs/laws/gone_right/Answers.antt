use Rattle.model.proofs.Gones.{gone-right}
use Rattle.model.proofs.laws.gone_right.Goals as goal

pub returns : goal.returns
returns c = gone-right
