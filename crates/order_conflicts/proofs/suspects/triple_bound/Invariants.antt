use Rattle.std.proofs.Common.{◌≡◌, ◌≤◌, ◌^◌, drop, length}
use Rattle.order_conflicts.specs.Suspects.{triple_bound}
use Rattle.order_conflicts.proofs.suspects.triple_bound.Given as goal

abbrev pub invariant-loop-n : goal.invariant-loop-n
invariant-loop-n l = record {
  within : l.n ≤ length l.orders;
  value : l.bound ≡ triple_bound (drop l.n l.orders);
  few : l.bound ≤ 2 ^ 32;
}

abbrev pub decreases-loop-n : goal.decreases-loop-n
decreases-loop-n l = l.n
