use Rattle.std.proofs.Common.{◌*◌, get_or, length}
use Rattle.order_closure.specs.Rows.{bit_of}
use Rattle.harris_matrix.specs.Rows.{IsRowMarked}
use Rattle.harris_matrix.proofs.finding.mark_row.Given as goal

abbrev pub invariant-loop-j : goal.invariant-loop-j
invariant-loop-j l = IsRowMarked (λ j. bit_of l.row 0 (2 * get_or l.least j 0)) (length l.least) l.i l.j l.initial.words l.words
