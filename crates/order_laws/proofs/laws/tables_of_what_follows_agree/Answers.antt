use Rattle.order_laws.proofs.Closure.{one_base}
use Rattle.order_laws.proofs.laws.tables_of_what_follows_agree.Goals as goal

pub returns : goal.returns
returns c = λ orders extents dates table x y base in_x in_y. one_base orders extents dates table base x y in_x in_y
