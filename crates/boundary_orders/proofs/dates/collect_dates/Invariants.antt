use Rattle.std.proofs.Common.{◌≡◌, take}
use Rattle.std.specs.List.{All}
use Rattle.boundary_orders.specs.Orders.{IsInstant, dates_of}
use Rattle.boundary_orders.proofs.dates.collect_dates.Given as goal

abbrev pub invariant-loop-statement : goal.invariant-loop-statement
invariant-loop-statement l = record {
  dates : l.found.keys ≡ dates_of l.names (take l.statement-index l.statements);
  instants : All IsInstant l.found.keys;
}
