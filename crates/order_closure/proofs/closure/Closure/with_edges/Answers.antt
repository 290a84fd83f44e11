use Rattle.std.proofs.Common.{◌∙◌}
use Rattle.order_closure.proofs.Tabling.{closure_of}
use Rattle.order_closure.proofs.closure.Closure.with_edges.Goals as goal

pub returns-clause-closure : goal.returns-clause-closure
returns-clause-closure c =
    closure_of c.args.set.now _ _ _ _ _ c.conditions.ensures c.extents-extents.ensures
    (rw c.dates.ensures at c.len-dates.ensures) (c.as_slice.ensures ∙ c.orders.ensures)
    c.in_ok-linked.ensures.links c.in_ok-words.ensures
