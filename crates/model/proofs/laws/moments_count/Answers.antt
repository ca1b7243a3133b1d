use Rattle.model.proofs.Timing.{timing}
use Rattle.model.proofs.laws.moments_count.Goals as goal

pub returns : goal.returns
returns c = timing
