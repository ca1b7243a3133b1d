use Rattle.model.proofs.Streaming.{streams-carry}
use Rattle.model.proofs.laws.streams_carry.Goals as goal

pub returns : goal.returns
returns c = streams-carry
