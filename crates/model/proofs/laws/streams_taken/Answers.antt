use Rattle.model.proofs.Taking.{streams-taken}
use Rattle.model.proofs.laws.streams_taken.Goals as goal

pub returns : goal.returns
returns c = streams-taken
