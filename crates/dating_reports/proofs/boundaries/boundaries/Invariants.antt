use Rattle.std.proofs.Common.{◌≡◌}
use Rattle.order_laws.specs.Tables.{boundaries}
use Rattle.dating_reports.proofs.boundaries.boundaries.Given as goal

abbrev pub invariant-loop-k : goal.invariant-loop-k
invariant-loop-k l = l.points ≡ boundaries l.k
