use Rattle.std.proofs.Common.{◌≡◌, ◌≤◌, length, All}
use Rattle.order_conflicts.proofs.walking.stand.Given as goal

abbrev pub invariant-loop-k : goal.invariant-loop-k
invariant-loop-k l = record {
  size : length l.left.items ≡ l.k;
  within : All (λ at. at ≤ length l.set.list) l.left.items;
}
