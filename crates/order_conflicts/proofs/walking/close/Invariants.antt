use Rattle.std.proofs.Common.{◌≡◌, length}
use Rattle.order_conflicts.specs.Walks.{IsWalk}
use Rattle.order_conflicts.proofs.walking.close.Given as goal

abbrev pub invariant-loop-walk : goal.invariant-loop-walk
invariant-loop-walk l = record {
  walk : IsWalk l.points l.orders l.walk;
  left : l.walk.left.items ≡ l.fn.walk.left.items;
  trail : l.walk.trail.items ≡ l.fn.walk.trail.items;
}

abbrev pub decreases-loop-walk : goal.decreases-loop-walk
decreases-loop-walk l = length l.walk.path.items
