use Rattle.order_conflicts.proofs.Tied.{order_on_cycle, cycle_order_listed}
use Rattle.order_conflicts.proofs.laws.listed_orders_are_those_of_cycles.Goals as goal

pub returns : goal.returns
returns c = λ set n s. (
  λ listed. order_on_cycle set s listed.0 n listed.1.0 listed.1.1,
  λ ring. cycle_order_listed set s ring.0 n ring.1.0 ring.1.1,
)
