use Rattle.order_laws.proofs.ChainSearch.{found_first, first_found}
use Rattle.order_laws.proofs.laws.computed_chain_is_first.Goals as goal

pub returns : goal.returns
returns c = λ orders x y strict ns. (found_first orders x y strict ns, first_found orders x y strict ns)
