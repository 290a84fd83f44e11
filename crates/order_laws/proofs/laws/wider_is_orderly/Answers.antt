use Rattle.order_laws.proofs.Wider.{wider_orderly}
use Rattle.order_laws.proofs.laws.wider_is_orderly.Goals as goal

pub returns : goal.returns
returns c = λ orders extents dates table x good in_x. wider_orderly orders extents dates table good x in_x
