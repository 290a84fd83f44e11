use Rattle.harris_matrix.specs.Rows.{mark_at}
use Rattle.harris_matrix.proofs.Levelling.{IsLevelled}
use Rattle.harris_matrix.proofs.levels.find_levels.Given as goal

abbrev pub invariant-loop-j : goal.invariant-loop-j
invariant-loop-j l = IsLevelled (mark_at l.rows.count l.rows.words.items) l.rows.count l.cells l.j-index l.levels.items
