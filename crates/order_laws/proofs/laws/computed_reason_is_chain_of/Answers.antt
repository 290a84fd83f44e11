use Rattle.order_laws.proofs.ChainSearch.{reason_is, is_reason}
use Rattle.order_laws.proofs.laws.computed_reason_is_chain_of.Goals as goal

pub returns : goal.returns
returns c = λ orders x y ns. (reason_is orders x y ns, is_reason orders x y ns)
