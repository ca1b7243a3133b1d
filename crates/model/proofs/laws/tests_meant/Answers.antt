use Rattle.model.proofs.Means.{meaning}
use Rattle.model.proofs.laws.tests_meant.Goals as goal

pub returns : goal.returns
returns c = meaning
