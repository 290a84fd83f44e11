use Rattle.boundary_orders.proofs.Dated.{dates_known}
use Rattle.boundary_orders.proofs.laws.dates_are_known.Goals as goal

pub returns : goal.returns
returns c = dates_known
