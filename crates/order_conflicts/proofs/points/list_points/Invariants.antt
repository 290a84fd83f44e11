use Rattle.std.proofs.Common.{◌≡◌, ◌++◌}
use Rattle.order_laws.specs.Tables.{boundaries, date_points}
use Rattle.order_conflicts.proofs.points.list_points.Given as goal

abbrev pub invariant-loop-k : goal.invariant-loop-k
invariant-loop-k l = l.points.items ≡ boundaries l.k

abbrev pub invariant-loop-date : goal.invariant-loop-date
invariant-loop-date l = l.points.items ≡ boundaries l.extents ++ date_points l.date
