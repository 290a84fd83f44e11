use Rattle.std.proofs.Common.{length}
use Rattle.harris_matrix.specs.Matrices.{least_of, is_before}
use Rattle.harris_matrix.proofs.Leading.{walks_lead}
use Rattle.harris_matrix.proofs.laws.walks_lead_to_what_is_before.Goals as goal

pub returns : goal.returns
returns c = λ orders extents dates periods i j set cycle range h l.
    walks_lead (length (least_of orders periods)) (is_before orders periods) (c.cells_are_strictly_ordered.ensures orders extents dates periods set cycle range) i j h l
