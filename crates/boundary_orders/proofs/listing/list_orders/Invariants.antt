use Rattle.std.proofs.Common.{◌≡◌, take}
use Rattle.boundary_orders.specs.Orders.{statement_orders}
use Rattle.boundary_orders.proofs.listing.list_orders.Given as goal

abbrev pub invariant-loop-statement : goal.invariant-loop-statement
invariant-loop-statement l = l.list ≡ statement_orders l.names l.extents.entries l.dates (take l.statement-index l.statements)
