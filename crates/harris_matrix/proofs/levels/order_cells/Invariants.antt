use Rattle.std.proofs.Common.{◌≡◌, map, take}
use Rattle.harris_matrix.proofs.levels.order_cells.Given as goal

abbrev pub invariant-loop-r : goal.invariant-loop-r
invariant-loop-r l = l.cells.items ≡ map (λ r. r.cell) (take l.r-index l.r-items)
