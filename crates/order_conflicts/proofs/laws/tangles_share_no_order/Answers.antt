use Rattle.order_conflicts.proofs.Tied.{one_tangle}
use Rattle.order_conflicts.proofs.laws.tangles_share_no_order.Goals as goal

pub returns : goal.returns
returns c = λ set x y n s a b d e. one_tangle set s x y n a b d e
