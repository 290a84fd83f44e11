use Rattle.std.proofs.Common.{◌≡◌, drop}
use Rattle.std.specs.Prelude.{None}
use Rattle.order_conflicts.specs.Cycles.{earliest}
use Rattle.order_conflicts.proofs.cycles.first_cycle.Given as goal

abbrev pub invariant-loop-point : goal.invariant-loop-point
invariant-loop-point l = earliest l.analysis.set.list l.first (drop l.point-index l.points) ≡ earliest l.analysis.set.list None l.points
