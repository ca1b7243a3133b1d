use Rattle.model.proofs.Stays.{holds-stay}
use Rattle.model.proofs.laws.holds_stay.Goals as goal

pub returns : goal.returns
returns c = holds-stay
