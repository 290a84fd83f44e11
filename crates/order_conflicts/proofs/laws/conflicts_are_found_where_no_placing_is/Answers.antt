use Rattle.std.proofs.Common.{ap}
use Rattle.order_laws.proofs.Hold.{cycle_refutes}
use Rattle.order_laws.proofs.Placed.{consistent}
use Rattle.order_conflicts.specs.Conflicts.{conflicts_where}
use Rattle.order_conflicts.proofs.Placed.{free_of_cycles, no_loop_without, none_found}
use Rattle.order_conflicts.proofs.laws.conflicts_are_found_where_no_placing_is.Goals as goal

pub returns : goal.returns
returns c = λ set s. (
  λ none. consistent set.list set.extents set.dates s (free_of_cycles set.list set.extents set.dates s (none_found set none)),
  λ placed. ap (conflicts_where set) (no_loop_without set.list set.extents set.dates s (λ cycle. cycle_refutes set.list set.dates set.extents cycle placed)),
)
