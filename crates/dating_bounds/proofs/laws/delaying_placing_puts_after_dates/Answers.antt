use Rattle.dating_bounds.proofs.Bounding.{delaying_after}
use Rattle.dating_bounds.proofs.laws.delaying_placing_puts_after_dates.Goals as goal

pub returns : goal.returns
returns c = λ set p d keeps no_cycle boundary h never. delaying_after set keeps no_cycle p d boundary h never
