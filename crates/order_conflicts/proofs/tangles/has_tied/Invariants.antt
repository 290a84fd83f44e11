use Rattle.std.proofs.Common.{◌≡◌, take, false}
use Rattle.std.specs.List.{list_any}
use Rattle.order_conflicts.specs.Tangles.{are_tied}
use Rattle.order_conflicts.proofs.tangles.has_tied.Given as goal

abbrev pub invariant-loop-k : goal.invariant-loop-k
invariant-loop-k l = list_any (are_tied l.analysis.set.list l.x) (take l.k l.points) ≡ false
