use Rattle.reason_report.proofs.Standing.{consistent_of, of_consistent}
use Rattle.reason_report.proofs.laws.reports_are_consistent_where_some_placing_satisfies.Goals as goal

pub returns : goal.returns
returns c = λ set conditions. (consistent_of set.list set.extents set.dates conditions, of_consistent set.list set.extents set.dates)
