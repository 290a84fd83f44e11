use Rattle.std.proofs.Common.{◌≡◌, map, take}
use Rattle.order_closure.specs.Closures.{between}
use Rattle.placing_witness.proofs.rows.column_to.Given as goal

abbrev pub invariant-loop-n : goal.invariant-loop-n
invariant-loop-n l = l.column.items ≡ map (λ q. between l.closure q l.x) (take l.n l.points)
