use Rattle.order_laws.proofs.Placed.{delayed_before}
use Rattle.order_laws.proofs.laws.delaying_puts_before.Goals as goal

pub returns : goal.returns
returns c = λ orders extents dates x y set no_cycle in_x in_y h. delayed_before orders extents dates set no_cycle x y in_x in_y h
