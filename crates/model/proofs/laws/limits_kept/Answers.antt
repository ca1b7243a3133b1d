use Rattle.model.proofs.Fits.{limits-kept}
use Rattle.model.proofs.laws.limits_kept.Goals as goal

pub returns : goal.returns
returns c = limits-kept
