use Rattle.std.proofs.Common.{◌≡◌, ◌++◌}
use Rattle.boundary_orders.proofs.dates.find_dates.Given as goal

abbrev pub invariant-loop-date : goal.invariant-loop-date
invariant-loop-date l = l.dates.items ++ l.date-iterator ≡ l.initial.date-iterator
