use Rattle.dating_bounds.proofs.Bounding.{delaying_upon}
use Rattle.dating_bounds.proofs.laws.delaying_placing_puts_on_the_high_bound.Goals as goal

pub returns : goal.returns
returns c = λ set p d keeps no_cycle boundary high. delaying_upon set keeps no_cycle p d boundary high
