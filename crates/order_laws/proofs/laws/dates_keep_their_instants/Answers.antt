use Rattle.order_laws.proofs.LawD.{built_date}
use Rattle.order_laws.proofs.laws.dates_keep_their_instants.Goals as goal

pub returns : goal.returns
returns c = λ orders extents dates table k set good h. built_date orders extents dates table set good k h
