use Rattle.join_laws.proofs.Limiting.{few_alike}
use Rattle.join_laws.proofs.laws.files_are_as_few_in_any_order.Goals as goal

pub returns : goal.returns
returns c = λ files others p few. few_alike files others p few
