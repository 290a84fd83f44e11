use Rattle.order_laws.proofs.LawD.{built_satisfies}
use Rattle.order_laws.proofs.laws.built_placings_satisfy.Goals as goal

pub returns : goal.returns
returns c = λ orders extents dates table set good. built_satisfies orders extents dates table set good
