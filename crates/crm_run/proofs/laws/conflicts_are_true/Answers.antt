use Rattle.crm_run.proofs.Tangled.{true_conflicts}
use Rattle.crm_run.proofs.laws.conflicts_are_true.Goals as goal

pub returns : goal.returns
returns c = λ extents dates statements front made conditions.
    true_conflicts c.conflicts_are_found_where_no_placing_is.ensures c.suspects_alone_can_be_wrong.ensures c.orders_beside_tangles_are_consistent.ensures extents dates statements
    made conditions front
