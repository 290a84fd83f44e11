use Rattle.order_laws.proofs.Placed.{built_same}
use Rattle.order_laws.proofs.laws.placings_of_same_entries_agree.Goals as goal

pub returns : goal.returns
returns c = built_same
