use Rattle.std.proofs.Common.{length}
use Rattle.order_laws.proofs.Loops.{cycle_decided}
use Rattle.order_laws.proofs.laws.strict_loops_are_cycles.Goals as goal

pub returns : goal.returns
returns c = λ orders extents dates set.
    let decided = cycle_decided orders extents (length dates) set.low_in_range in
    (decided.1, decided.0)
