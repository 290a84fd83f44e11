use Rattle.dating_reports.proofs.Telling.{during_told}
use Rattle.dating_reports.proofs.laws.printed_periods_are_under_way_in_placings.Goals as goal

pub returns : goal.returns
returns c = λ r t done. during_told r t done
