use Rattle.std.proofs.Common.{take}
use Rattle.order_conflicts.specs.Suspects.{triple_bound}
use Rattle.order_conflicts.specs.Rings.{AreMarked}
use Rattle.order_conflicts.proofs.suspects.mark_triples.Given as goal

abbrev pub invariant-loop-k : goal.invariant-loop-k
invariant-loop-k l = AreMarked l.orders (take l.k l.chain) l.on (triple_bound l.orders)
