use Rattle.std.proofs.Common.{◌≡◌}
use Rattle.placing_witness.specs.Prepared.{delayed_positions}
use Rattle.placing_witness.proofs.delays.positions.Given as goal

abbrev pub invariant-loop-n : goal.invariant-loop-n
invariant-loop-n l = l.positions.items ≡ delayed_positions l.delay l.row l.floors l.counts l.plain l.n
