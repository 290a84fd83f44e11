use Rattle.std.proofs.Common.{◌≡◌}
use Rattle.order_laws.specs.Closure.{reach_between}
use Rattle.harris_matrix.specs.Matrices.{cells_below}
use Rattle.harris_matrix.proofs.matrix.make_cells.Given as goal

abbrev pub invariant-loop-c : goal.invariant-loop-c
invariant-loop-c l = l.cells ≡ cells_below (reach_between l.set.list) l.periods l.least l.levels l.c
