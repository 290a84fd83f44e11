use Rattle.std.proofs.Common.{length, subst, sym}
use Rattle.order_laws.specs.Tables.{IsOrderSet}
use Rattle.order_core.specs.Sets.{Orders}
use Rattle.order_conflicts.proofs.Placed.{conflicts_none, conflicts_some, cycle_found}
use Rattle.order_conflicts.proofs.conflicts.find_conflicts.Goals as goal

pub short_cycle-tried-requires-clause-other : goal.short_cycle-tried-requires-clause-other
short_cycle-tried-requires-clause-other c =
    let set = c.args.analysis.now.set in
    cycle_found set c.in-Some.cycle.now ((c.computed_cycle_is_first.ensures set.list set.extents (length set.dates) c.in-Some.cycle.now).0 (sym c.in-Some.ensures.cycle))

pub returns-in-None : goal.returns-in-None
returns-in-None c =
    let P : Orders → Type 0 = λ s. IsOrderSet s.list s.extents s.dates in
    conflicts_none c.args.analysis.now.set (subst P c.set.ensures c.conditions.ensures.orders) c.in-None.ensures.none

pub returns-in_ok-suspects-in-Some : goal.returns-in_ok-suspects-in-Some
returns-in_ok-suspects-in-Some c =
    let set = c.args.analysis.now.set in
    let P : Orders → Type 0 = λ s. IsOrderSet s.list s.extents s.dates in
    let cycle = cycle_found set c.in-Some.cycle.now ((c.computed_cycle_is_first.ensures set.list set.extents (length set.dates) c.in-Some.cycle.now).0 (sym c.in-Some.ensures.cycle)) in
    rw (c.in_ok-tangles-in-Some.ensures, c.in_ok-suspects-in-Some.ensures) (conflicts_some set c.in-Some.cycle.now (subst P c.set.ensures c.conditions.ensures.orders) cycle)
