use Rattle.std.proofs.Common.{◌≡◌, ◌≤◌}
use Rattle.harris_matrix.specs.Levels.{count_below}
use Rattle.harris_matrix.specs.Rows.{mark_at}
use Rattle.harris_matrix.proofs.levels.rank.Given as goal

abbrev pub invariant-loop-k : goal.invariant-loop-k
invariant-loop-k l =
    (l.count ≡ count_below l.k (λ k. mark_at l.rows.count l.rows.words.items k l.j)) × (l.count ≤ l.k)
