use Rattle.order_conflicts.proofs.Tied.{cycle_in_tangle}
use Rattle.order_conflicts.proofs.laws.cycles_lie_in_tangles.Goals as goal

pub returns : goal.returns
returns c = λ set ns s cycle. cycle_in_tangle set s ns cycle
