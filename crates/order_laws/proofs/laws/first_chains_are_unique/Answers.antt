use Rattle.order_laws.proofs.FirstChains.{one_first}
use Rattle.order_laws.proofs.laws.first_chains_are_unique.Goals as goal

pub returns : goal.returns
returns c = one_first
