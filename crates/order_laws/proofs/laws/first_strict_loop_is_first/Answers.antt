use Rattle.order_laws.proofs.Loops.{loop_is_first, first_is_loop}
use Rattle.order_laws.proofs.laws.first_strict_loop_is_first.Goals as goal

pub returns : goal.returns
returns c = λ orders extents dates x. (loop_is_first orders extents dates x, first_is_loop orders extents dates x)
