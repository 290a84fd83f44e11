use Rattle.crm_matrix.proofs.Matrices.{is_matrix}
use Rattle.crm_matrix.proofs.laws.printed_matrix_is_the_harris_matrix.Goals as goal

pub returns : goal.returns
returns c = λ orders extents dates periods set acyclic within.
    is_matrix orders periods (c.cells_are_strictly_ordered.ensures orders extents dates periods set acyclic within)
