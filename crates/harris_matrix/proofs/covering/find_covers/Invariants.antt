use Rattle.std.proofs.Common.{◌≡◌}
use Rattle.harris_matrix.specs.Covers.{covers_of, starts_of}
use Rattle.harris_matrix.specs.Rows.{mark_at}
use Rattle.harris_matrix.proofs.covering.find_covers.Given as goal

abbrev pub invariant-loop-i : goal.invariant-loop-i
invariant-loop-i l =
    (l.pairs ≡ covers_of (mark_at l.rows.count l.rows.words.items) l.rows.count l.i)
    × (l.starts.items ≡ starts_of (mark_at l.rows.count l.rows.words.items) l.rows.count l.i)
