use Rattle.order_extension.proofs.Further.{satisfied_both}
use Rattle.order_extension.proofs.laws.further_orders_are_satisfied_too.Goals as goal

pub returns : goal.returns
returns c = λ orders more dates placing. satisfied_both dates placing orders more
