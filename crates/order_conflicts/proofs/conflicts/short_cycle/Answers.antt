use Rattle.std.proofs.Common.{◌≡◌, ◌∙◌, List, Some, ap, slice_get, subst, sym}
use Rattle.order_laws.specs.Tables.{IsOrderSet}
use Rattle.order_core.specs.Sets.{Orders}
use Rattle.order_conflicts.specs.declared.tangles.Tangle.{Tangle}
use Rattle.order_conflicts.specs.Tangles.{tangles_in}
use Rattle.order_conflicts.proofs.Rings.{found_cycle}
use Rattle.order_conflicts.proofs.conflicts.short_cycle.Goals as goal

pub returns-in-Some : goal.returns-in-Some
returns-in-Some c =
    let P : Orders → Type 0 = λ s. IsOrderSet s.list s.extents s.dates in
    let here : slice_get (tangles_in c.args.analysis.now.set) 0 ≡ Some c.in-Some.tangle.now = ap (λ (ts : List Tangle). slice_get ts 0) (sym c.requires.tangles) ∙ sym c.in-Some.ensures in
    found_cycle c.args.analysis.now.set (subst P c.set.ensures c.conditions.ensures.orders) c.in-Some.tangle.now 0 here
