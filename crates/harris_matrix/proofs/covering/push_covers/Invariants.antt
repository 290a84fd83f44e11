use Rattle.std.proofs.Common.{◌≡◌, ◌++◌, get_or, false}
use Rattle.harris_matrix.specs.Covers.{pairs_with}
use Rattle.harris_matrix.proofs.covering.push_covers.Given as goal

abbrev pub invariant-loop-j : goal.invariant-loop-j
invariant-loop-j l = l.pairs ≡ l.initial.pairs ++ pairs_with l.i (λ j. get_or l.marks j false) l.j
