use Rattle.dating_reports.proofs.Telling.{bounds_told}
use Rattle.dating_reports.proofs.laws.printed_bounds_hold_in_every_placing.Goals as goal

pub returns : goal.returns
returns c = λ r done. bounds_told r done
