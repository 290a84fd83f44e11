use Rattle.order_conflicts.proofs.Marking.{cycle_within}
use Rattle.order_conflicts.proofs.suspects.find_suspects.Goals as goal

pub mark_triples-requires : goal.mark_triples-requires
mark_triples-requires c = rw (c.as_slice-orders.ensures, c.orders.ensures, c.set-set.ensures, c.as_slice.ensures) (cycle_within c.args.analysis.now.set.list c.args.cycle.now c.requires)
