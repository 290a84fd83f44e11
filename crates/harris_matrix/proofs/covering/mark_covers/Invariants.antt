use Rattle.order_closure.specs.Rows.{bit_of}
use Rattle.harris_matrix.specs.Rows.{mark_at}
use Rattle.harris_matrix.proofs.Striking.{IsMarking}
use Rattle.harris_matrix.proofs.covering.mark_covers.Given as goal

abbrev pub invariant-loop-j : goal.invariant-loop-j
invariant-loop-j l = IsMarking (mark_at l.rows.count l.rows.words.items) l.rows.count l.cells l.i l.j-index (bit_of l.struck 0) l.marks
