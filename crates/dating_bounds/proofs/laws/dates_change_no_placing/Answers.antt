use Rattle.dating_bounds.proofs.Dating.{dated_satisfied}
use Rattle.dating_bounds.proofs.laws.dates_change_no_placing.Goals as goal

pub returns : goal.returns
returns c = λ set t placing keeps. dated_satisfied set keeps t placing
