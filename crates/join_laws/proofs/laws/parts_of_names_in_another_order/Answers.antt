use Rattle.join_laws.proofs.Exchanging.{also_got}
use Rattle.join_laws.proofs.laws.parts_of_names_in_another_order.Goals as goal

pub returns : goal.returns
returns c = λ part names others p. also_got part names others p
