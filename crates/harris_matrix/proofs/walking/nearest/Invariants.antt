use Rattle.harris_matrix.specs.Walks.{IsNearest}
use Rattle.harris_matrix.proofs.walking.nearest.Given as goal

abbrev pub invariant-loop-c : goal.invariant-loop-c
invariant-loop-c l = IsNearest l.pairs l.lengths l.from l.c l.best
