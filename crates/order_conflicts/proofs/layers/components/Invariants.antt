use Rattle.std.proofs.Common.{length}
use Rattle.chain_certificate.specs.Routes.{points_of}
use Rattle.order_conflicts.specs.Walks.{IsWalk}
use Rattle.order_conflicts.proofs.layers.components.Given as goal

abbrev pub invariant-loop-point : goal.invariant-loop-point
invariant-loop-point g l = IsWalk (points_of l.set) (length l.set.list) l.walk
