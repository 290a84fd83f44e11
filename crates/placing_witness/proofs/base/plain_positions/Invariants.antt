use Rattle.std.proofs.Common.{◌≡◌, map, take}
use Rattle.order_laws.specs.Tables.{built_at}
use Rattle.order_closure.specs.Closures.{between}
use Rattle.placing_witness.proofs.base.plain_positions.Given as goal

abbrev pub invariant-loop-n : goal.invariant-loop-n
invariant-loop-n l = l.positions.items ≡ map (built_at l.closure.extents l.dates (between l.closure)) (take l.n l.points)
