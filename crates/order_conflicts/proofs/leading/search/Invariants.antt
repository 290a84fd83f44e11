use Rattle.std.proofs.Common.{◌-◌}
use Rattle.chain_certificate.specs.Routes.{points_of}
use Rattle.order_conflicts.specs.Found.{IsSearching, room}
use Rattle.order_conflicts.proofs.leading.search.Given as goal

abbrev pub invariant-loop-at : goal.invariant-loop-at
invariant-loop-at g l = IsSearching l.set l.triple (points_of l.set) l.from l.found l.at

abbrev pub decreases-loop-at : goal.decreases-loop-at
decreases-loop-at g l = room l.found - l.at
