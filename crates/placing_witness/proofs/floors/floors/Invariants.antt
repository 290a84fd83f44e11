use Rattle.std.proofs.Common.{◌≡◌, map}
use Rattle.order_laws.specs.Tables.{floor_of}
use Rattle.order_closure.specs.Closures.{between}
use Rattle.placing_witness.proofs.floors.floors.Given as goal

abbrev pub invariant-loop-k : goal.invariant-loop-k
invariant-loop-k l = l.floors ≡ map (floor_of (between l.closure) l.k) l.points
