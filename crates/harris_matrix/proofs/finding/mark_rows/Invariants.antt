use Rattle.order_laws.specs.Closure.{reach_between}
use Rattle.harris_matrix.specs.Cells.{ends_before}
use Rattle.harris_matrix.specs.Rows.{IsMarked}
use Rattle.harris_matrix.proofs.finding.mark_rows.Given as goal

abbrev pub invariant-loop-i : goal.invariant-loop-i
invariant-loop-i l = IsMarked (ends_before (reach_between l.set.list)) l.least l.i l.words
