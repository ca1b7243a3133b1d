use Rattle.model.proofs.Told.{turning}
use Rattle.model.proofs.laws.turned_in_order.Goals as goal

pub returns : goal.returns
returns c = turning
