use Rattle.std.proofs.Common.{◌≡◌, ◌≤◌}
use Rattle.placing_witness.specs.Bits.{count_to}
use Rattle.dating_bounds.specs.Pushed.{is_set_passed}
use Rattle.dating_bounds.proofs.counting.count_passed.Given as goal

abbrev pub invariant-loop-k : goal.invariant-loop-k
invariant-loop-k l = (l.count ≡ count_to (is_set_passed l.rows.level.now l.rows.below.now l.rows.ahead.now l.rows.before.now) l.k) × (l.count ≤ l.k)
