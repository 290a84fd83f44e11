use Rattle.std.proofs.Common.{◌<◌}
use Rattle.std.proofs.lemmas.List.Elements.{All-filter}
use Rattle.order_laws.specs.Closure.{reach_between}
use Rattle.harris_matrix.specs.Cells.{is_least}
use Rattle.harris_matrix.specs.Matrices.{least_of}
use Rattle.harris_matrix.proofs.Standing.{strict_order}
use Rattle.harris_matrix.proofs.laws.cells_are_strictly_ordered.Goals as goal

pub returns : goal.returns
returns c = λ orders extents dates periods set cycle range.
    strict_order orders extents dates (reach_between orders) set
    (c.base_is_orderly.ensures orders extents dates (reach_between orders) set cycle
    (record { strictly = λ x y _ _. c.closure_is_what_follows.ensures.strictly orders x y; known = λ x y _ _. c.closure_is_what_follows.ensures.known orders x y }))
    (least_of orders periods) (All-filter (is_least (reach_between orders) periods) (λ k. k < extents) periods range)
