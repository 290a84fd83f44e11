use Rattle.std.proofs.Common.{length, ◌-◌}
use Rattle.chain_certificate.specs.Routes.{points_of}
use Rattle.order_conflicts.specs.Found.{IsExpanding}
use Rattle.order_conflicts.proofs.leading.expand.Given as goal

abbrev pub invariant-loop-n : goal.invariant-loop-n
invariant-loop-n g l = IsExpanding l.set l.triple (points_of l.set) l.point l.fn.found l.found l.walk

abbrev pub decreases-loop-n : goal.decreases-loop-n
decreases-loop-n g l = length l.edges.lows - l.walk
