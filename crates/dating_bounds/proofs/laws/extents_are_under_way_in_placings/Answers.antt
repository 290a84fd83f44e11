use Rattle.dating_bounds.proofs.Instants.{at_instant_is}
use Rattle.dating_bounds.proofs.laws.extents_are_under_way_in_placings.Goals as goal

pub returns : goal.returns
returns c = λ set t k keeps no_cycle h. at_instant_is set keeps t no_cycle k h
