use Rattle.order_laws.proofs.Hold.{cycle_refutes}
use Rattle.order_laws.proofs.Placed.{consistent}
use Rattle.order_laws.proofs.laws.consistent_without_cycles.Goals as goal

pub returns : goal.returns
returns c = λ orders extents dates set. (λ some cycle. cycle_refutes orders dates extents cycle some, consistent orders extents dates set)
