use Rattle.order_conflicts.proofs.Avoiding.{suspect_on}
use Rattle.order_conflicts.proofs.laws.suspects_are_on_every_cycle.Goals as goal

pub returns : goal.returns
returns c = λ set t ns s suspect cycle. suspect_on set t ns s suspect cycle
