use Rattle.model.specs.Runs.{reached}
use Rattle.model.proofs.Shows.{exact}
use Rattle.model.proofs.Steps.{reached-sound}
use Rattle.model.proofs.laws.exactly_in_use.Goals as goal

pub returns : goal.returns
returns c = λ n number calls b. exact (reached n number calls) (reached-sound n number calls) b
