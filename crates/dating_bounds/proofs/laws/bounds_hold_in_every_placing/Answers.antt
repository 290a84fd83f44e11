use Rattle.dating_bounds.proofs.Bounding.{bound_is}
use Rattle.dating_bounds.proofs.laws.bounds_hold_in_every_placing.Goals as goal

pub returns : goal.returns
returns c = λ set p keeps no_cycle boundary. bound_is set keeps no_cycle p boundary
