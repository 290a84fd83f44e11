use Rattle.order_laws.proofs.Placed.{consistent}
use Rattle.order_conflicts.proofs.Untangled.{rest_is_set, rest_has_no_cycle}
use Rattle.order_conflicts.proofs.laws.orders_beside_tangles_are_consistent.Goals as goal

pub returns : goal.returns
returns c = λ extents dates statements ascending range.
    consistent _ extents dates (rest_is_set extents dates statements ascending range) (rest_has_no_cycle extents dates statements ascending range)
