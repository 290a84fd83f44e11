use Rattle.order_conflicts.proofs.Listing.{listed_suspect, suspect_listed}
use Rattle.order_conflicts.proofs.laws.suspects_are_listed.Goals as goal

pub returns : goal.returns
returns c = λ set t s cycle. (listed_suspect set t s cycle, suspect_listed set t s cycle)
