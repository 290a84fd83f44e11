use Rattle.crm_run.proofs.Dated.{true_moments}
use Rattle.crm_run.proofs.laws.moments_are_true.Goals as goal

pub returns : goal.returns
returns c = λ r t few.
    true_moments c.reports_are_consistent_where_some_placing_satisfies.ensures c.orders_of_records_are_a_set.ensures.orders r few t (c.printed_periods_are_under_way_in_placings.ensures r t)
