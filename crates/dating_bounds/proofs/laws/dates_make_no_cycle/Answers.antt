use Rattle.dating_bounds.proofs.Dating.{none_dated, none_undated}
use Rattle.dating_bounds.proofs.laws.dates_make_no_cycle.Goals as goal

pub returns : goal.returns
returns c = λ set t keeps. (none_undated set keeps t, none_dated set keeps t)
