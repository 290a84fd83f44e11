use Rattle.order_laws.proofs.Hold.{walk_stands}
use Rattle.order_laws.proofs.laws.chains_hold.Goals as goal

pub returns : goal.returns
returns c = λ orders dates placing x y ns chain sat. walk_stands orders dates placing sat x y ns chain.1
