use Rattle.order_laws.proofs.Placed.{stands_at}
use Rattle.order_laws.proofs.laws.built_placings_keep.Goals as goal

pub returns : goal.returns
returns c = λ orders extents dates table strict y z set good in_y in_z known strictly.
    stands_at orders extents dates table set good strict y z in_y in_z known strictly
