use Rattle.harris_matrix.proofs.Reading.{IsRead}
use Rattle.harris_matrix.proofs.walking.read_walk.Given as goal

abbrev pub invariant-loop-left : goal.invariant-loop-left
invariant-loop-left l = IsRead l.count l.pairs l.lengths l.fn.i l.size l.at l.left l.walk

abbrev pub decreases-loop-left : goal.decreases-loop-left
decreases-loop-left l = l.left
