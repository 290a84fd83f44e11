use Rattle.dating_bounds.proofs.Bounding.{plain_upon}
use Rattle.dating_bounds.proofs.laws.plain_placing_puts_on_the_low_bound.Goals as goal

pub returns : goal.returns
returns c = λ set p d keeps no_cycle boundary low. plain_upon set keeps no_cycle p d boundary low
