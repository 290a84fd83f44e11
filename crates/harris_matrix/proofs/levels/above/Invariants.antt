use Rattle.std.proofs.Common.{◌≡◌}
use Rattle.harris_matrix.specs.Levels.{above_all}
use Rattle.harris_matrix.specs.Rows.{mark_at}
use Rattle.harris_matrix.proofs.levels.above.Given as goal

abbrev pub invariant-loop-k : goal.invariant-loop-k
invariant-loop-k l = l.level ≡ above_all l.k (λ k. mark_at l.rows.count l.rows.words.items k l.j) l.levels
