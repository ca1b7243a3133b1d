use Rattle.model.proofs.Told.{told-before}
use Rattle.model.proofs.laws.told_before.Goals as goal

pub returns : goal.returns
returns c = told-before
