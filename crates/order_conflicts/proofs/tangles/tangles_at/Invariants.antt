use Rattle.std.proofs.Common.{◌≡◌, take, map}
use Rattle.order_conflicts.specs.Tangles.{tangle_at}
use Rattle.order_conflicts.proofs.tangles.tangles_at.Given as goal

abbrev pub invariant-loop-k : goal.invariant-loop-k
invariant-loop-k l = l.tangles.items ≡ map (tangle_at l.analysis.set) (take l.k l.least)
