use Rattle.std.proofs.Common.{◌≡◌, ◌++◌}
use Rattle.order_core.specs.Sets.{extent_orders}
use Rattle.order_core.proofs.statements.push_extent_orders.Given as goal

abbrev pub invariant-loop-k : goal.invariant-loop-k
invariant-loop-k l = l.list ≡ l.fn.list ++ extent_orders l.k
