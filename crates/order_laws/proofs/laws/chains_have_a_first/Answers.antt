use Rattle.order_laws.proofs.ChainSearch.{chain_there}
use Rattle.order_laws.proofs.laws.chains_have_a_first.Goals as goal

pub returns : goal.returns
returns c = chain_there
