use Rattle.std.proofs.Common.{◌≡◌, take}
use Rattle.std.specs.Prelude.{flat_map}
use Rattle.order_closure.specs.Closures.{between}
use Rattle.placing_witness.specs.Prepared.{lower_row}
use Rattle.placing_witness.proofs.placings.lower_rows.Given as goal

abbrev pub invariant-loop-n : goal.invariant-loop-n
invariant-loop-n l = l.lower.items ≡ flat_map (lower_row (between l.closure) l.points l.words) (take l.n l.points)
