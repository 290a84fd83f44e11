use Rattle.report_base.proofs.OrderSets.{order_set, periods_are_extents}
use Rattle.report_base.proofs.laws.orders_of_records_are_a_set.Goals as goal

pub returns-clause-orders : goal.returns-clause-orders
returns-clause-orders c = order_set

pub returns-clause-periods : goal.returns-clause-periods
returns-clause-periods c = periods_are_extents
