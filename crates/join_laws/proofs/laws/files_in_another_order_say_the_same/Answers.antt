use Rattle.join_laws.proofs.Renaming.{same_joined}
use Rattle.join_laws.proofs.laws.files_in_another_order_say_the_same.Goals as goal

pub returns : goal.returns
returns c = λ files others p. same_joined files others p
