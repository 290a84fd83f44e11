use Rattle.order_laws.proofs.Hold.{cycle_refutes}
use Rattle.order_laws.proofs.laws.cycles_refute.Goals as goal

pub returns : goal.returns
returns c = cycle_refutes
