use Rattle.std.proofs.Common.{◌≡◌, arith, length}
use Rattle.order_core.specs.Sets.{completed}
use Rattle.order_core.proofs.Completed.{length-completed, completed_is_set, completed_by}
use Rattle.order_core.proofs.statements.completed_set.Goals as goal

is_completed : (c : goal.In_ok-push_date_orders) →
    c.push_date_orders.new.list ≡ completed c.args.extents (length c.args.dates) c.args.statements
is_completed c =
    completed_by c.args.extents (length c.args.dates) c.saturating_sub.result c.args.statements _ _
    (c.in_ok-push_extent_orders.ensures) (c.in_ok-push_date_orders.ensures) (omega arith)

pub new-requires-clause-few_orders : goal.new-requires-clause-few_orders
new-requires-clause-few_orders c =
    rw (is_completed c) (omega (arith, length-completed c.args.extents (length c.args.dates) c.args.statements, c.requires.few_orders))

pub new-requires-clause-orders : goal.new-requires-clause-orders
new-requires-clause-orders c =
    rw (is_completed c) (completed_is_set c.args.extents c.args.dates c.args.statements c.requires.ascending c.requires.in_range)
