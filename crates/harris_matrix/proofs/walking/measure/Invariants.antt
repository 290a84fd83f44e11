use Rattle.harris_matrix.proofs.Measuring.{IsMeasured}
use Rattle.harris_matrix.proofs.walking.measure.Given as goal

abbrev pub invariant-loop-p : goal.invariant-loop-p
invariant-loop-p l = IsMeasured l.count l.pairs l.target l.cells l.p l.lengths.items

abbrev pub decreases-loop-p : goal.decreases-loop-p
decreases-loop-p l = l.p
