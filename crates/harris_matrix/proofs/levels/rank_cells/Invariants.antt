use Rattle.std.proofs.Common.{◌≡◌}
use Rattle.harris_matrix.specs.Ranks.{ranked_below}
use Rattle.harris_matrix.specs.Rows.{mark_at}
use Rattle.harris_matrix.proofs.levels.rank_cells.Given as goal

abbrev pub invariant-loop-cell : goal.invariant-loop-cell
invariant-loop-cell l = l.ranked.items ≡ ranked_below (mark_at l.rows.count l.rows.words.items) l.rows.count l.cell
