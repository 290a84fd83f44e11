use Rattle.std.proofs.Common.{◌≢◌, ◌<◌, ◌≤◌, ℕ, Some}
use Rattle.harris_matrix.specs.Walks.{length_at}
use Rattle.harris_matrix.proofs.walking.first_step.Given as goal

abbrev pub invariant-loop-c : goal.invariant-loop-c
invariant-loop-c l = (b : ℕ) → l.from ≤ b → b < l.c → length_at l.pairs l.lengths b ≢ Some l.wanted
