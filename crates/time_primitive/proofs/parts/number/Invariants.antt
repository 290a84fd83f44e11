use Rattle.std.proofs.Common.{◌≡◌}
use Rattle.time_primitive.specs.Parts.{places}
use Rattle.time_primitive.proofs.parts.number.Given as goal

abbrev pub invariant-loop-i : goal.invariant-loop-i
invariant-loop-i l = l.value ≡ places l.digits l.i
