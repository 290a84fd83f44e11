use Rattle.order_laws.proofs.Placed.{plain_satisfies}
use Rattle.order_laws.proofs.laws.plain_placing_satisfies.Goals as goal

pub returns : goal.returns
returns c = plain_satisfies
