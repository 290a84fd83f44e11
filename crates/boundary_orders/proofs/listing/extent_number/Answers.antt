use Rattle.std.proofs.Common.{sym}
use Rattle.boundary_orders.proofs.Finding.{number_found, number_missing}
use Rattle.boundary_orders.proofs.listing.extent_number.Goals as goal

pub returns : goal.returns
returns c = number_found c.args.node c.args.extents.now.entries c.in-Some.k (sym c.in-Some.ensures.index)

pub unreachable-requires : goal.unreachable-requires
unreachable-requires c = number_missing c.args.node c.args.extents.now.entries (sym c.in-None.ensures.index) c.requires.numbered
