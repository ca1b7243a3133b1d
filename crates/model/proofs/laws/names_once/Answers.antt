use Rattle.model.proofs.Names.{names-once}
use Rattle.model.proofs.laws.names_once.Goals as goal

pub returns : goal.returns
returns c = names-once
