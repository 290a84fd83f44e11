use Rattle.std.proofs.Common.{◌≡◌, ◌≤◌}
use Rattle.order_closure.specs.Closures.{between}
use Rattle.placing_witness.specs.Delays.{delay_of}
use Rattle.placing_witness.proofs.floors.delay.Given as goal

abbrev pub invariant-loop-k : goal.invariant-loop-k
invariant-loop-k l = (l.delay ≤ l.k) × (l.delay ≡ delay_of (between l.closure) l.k l.x)
