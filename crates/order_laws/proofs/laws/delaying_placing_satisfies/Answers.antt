use Rattle.order_laws.proofs.Placed.{delaying_satisfies}
use Rattle.order_laws.proofs.laws.delaying_placing_satisfies.Goals as goal

pub returns : goal.returns
returns c = λ orders extents dates x set no_cycle in_x. delaying_satisfies orders extents dates set no_cycle x in_x
