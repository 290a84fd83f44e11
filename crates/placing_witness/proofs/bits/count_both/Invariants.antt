use Rattle.std.proofs.Common.{◌≡◌, ◌*◌, ◌≤◌}
use Rattle.placing_witness.specs.Bits.{set_in_both}
use Rattle.placing_witness.proofs.bits.count_both.Given as goal

abbrev pub invariant-loop-n : goal.invariant-loop-n
invariant-loop-n l = (l.count ≡ set_in_both l.xs l.ys l.n) × (l.count ≤ 64 * l.n)
