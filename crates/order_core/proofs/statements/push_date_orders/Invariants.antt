use Rattle.std.proofs.Common.{◌≡◌, ◌++◌}
use Rattle.order_core.specs.Sets.{date_orders}
use Rattle.order_core.proofs.statements.push_date_orders.Given as goal

abbrev pub invariant-loop-k : goal.invariant-loop-k
invariant-loop-k l = l.list ≡ l.fn.list ++ date_orders l.k
