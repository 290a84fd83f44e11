use Rattle.std.proofs.Common.{◌∙◌, sym, subst}
use Rattle.order_laws.specs.Tables.{IsOrderSet}
use Rattle.order_core.specs.Sets.{Orders}
use Rattle.order_conflicts.proofs.Avoiding.{not_suspect}
use Rattle.order_conflicts.proofs.suspects.is_suspect.Goals as goal

pub returns-then-not-marked : goal.returns-then-not-marked
returns-then-not-marked c =
    let P : Orders → Type 0 = λ s. IsOrderSet s.list s.extents s.dates in
    sym (not_suspect c.args.analysis.now.set c.args.triple c.args.cycle.now (subst P c.set-set.ensures c.conditions.ensures.orders) c.requires.cycle (sym c.requires.marked ∙ c.if-not-marked.true))
