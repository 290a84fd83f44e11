use Rattle.std.proofs.Common.{◌≡◌, map, take}
use Rattle.order_closure.specs.Closures.{between}
use Rattle.placing_witness.proofs.rows.row_from.Given as goal

abbrev pub invariant-loop-n : goal.invariant-loop-n
invariant-loop-n l = l.row.items ≡ map (λ q. between l.closure l.x q) (take l.n l.points)
