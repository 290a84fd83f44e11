use Rattle.std.proofs.Common.{◌≡◌, take, map}
use Rattle.order_conflicts.specs.Suspects.{suspect_of}
use Rattle.order_conflicts.proofs.suspects.suspects_of.Given as goal

abbrev pub invariant-loop-k : goal.invariant-loop-k
invariant-loop-k l = l.suspects.items ≡ map (suspect_of l.orders) (take l.k l.triples)
