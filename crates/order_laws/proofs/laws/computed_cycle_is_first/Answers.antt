use Rattle.order_laws.proofs.ChainSearch.{cycle_is, is_cycle}
use Rattle.order_laws.proofs.laws.computed_cycle_is_first.Goals as goal

pub returns : goal.returns
returns c = λ orders extents dates ns. (cycle_is orders extents dates ns, is_cycle orders extents dates ns)
