use Rattle.dating_bounds.proofs.Bounding.{plain_before}
use Rattle.dating_bounds.proofs.laws.plain_placing_puts_before_dates.Goals as goal

pub returns : goal.returns
returns c = λ set p d keeps no_cycle boundary h never. plain_before set keeps no_cycle p d boundary h never
