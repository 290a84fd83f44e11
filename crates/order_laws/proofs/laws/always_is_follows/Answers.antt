use Rattle.order_laws.proofs.Placed.{always_follows, follows_always}
use Rattle.order_laws.proofs.laws.always_is_follows.Goals as goal

pub returns : goal.returns
returns c = λ orders extents dates x y strict set no_cycle in_x in_y.
    (always_follows orders extents dates set no_cycle x y in_x in_y strict, follows_always orders extents dates x y strict)
