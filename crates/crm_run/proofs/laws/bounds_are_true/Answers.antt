use Rattle.crm_run.proofs.Dated.{true_bounds}
use Rattle.crm_run.proofs.laws.bounds_are_true.Goals as goal

pub returns : goal.returns
returns c = λ r few.
    true_bounds c.reports_are_consistent_where_some_placing_satisfies.ensures c.orders_of_records_are_a_set.ensures.orders r few (c.printed_bounds_hold_in_every_placing.ensures r)
