use Rattle.std.proofs.Common.{◌≡◌, ◌*◌, ◌≤◌}
use Rattle.placing_witness.specs.Bits.{count_to}
use Rattle.dating_bounds.specs.Pushed.{is_set_passed}
use Rattle.dating_bounds.proofs.counting.count_words.Given as goal

abbrev pub invariant-loop-n : goal.invariant-loop-n
invariant-loop-n l = (l.count ≡ count_to (is_set_passed l.rows.level.now l.rows.below.now l.rows.ahead.now l.rows.before.now) (64 * l.n)) × (l.count ≤ 64 * l.n)
