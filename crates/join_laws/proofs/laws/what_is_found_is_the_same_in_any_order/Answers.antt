use Rattle.join_laws.proofs.Agreeing.{found_alike}
use Rattle.join_laws.proofs.laws.what_is_found_is_the_same_in_any_order.Goals as goal

pub returns : goal.returns
returns c = λ files others p. found_alike files others p
