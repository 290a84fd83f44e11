use Rattle.boundary_orders.proofs.Dating.{found_at}
use Rattle.boundary_orders.proofs.Holding.{not_missing}
use Rattle.boundary_orders.proofs.dates.date_number.Goals as goal

pub returns : goal.returns
returns c = found_at c.args.dates.now c.args.date.now c.in-Ok.k c.requires.ascending c.in-Ok.ensures.bound c.in-Ok.ensures.ok

pub unreachable-requires : goal.unreachable-requires
unreachable-requires c = not_missing c.args.dates.now c.args.date.now c.in-Err.field-0 c.requires.ascending c.requires.held c.in-Err.ensures.position
