use Rattle.std.proofs.Common.{◌≡◌, ◌<◌, ℕ, get_or, length}
use Rattle.harris_matrix.proofs.covering.clear.Given as goal

abbrev pub invariant-loop-k : goal.invariant-loop-k
invariant-loop-k l = record {
  size : length l.words ≡ length l.initial.words;
  none : (m : ℕ) → m < l.k → get_or l.words m 0 ≡ 0;
}
