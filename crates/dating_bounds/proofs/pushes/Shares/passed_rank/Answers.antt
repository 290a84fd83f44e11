use Rattle.std.proofs.Common.{◌≡◌, ◌+◌, ◌*◌, ℤ, List, length, refl, ap, subst, arith, ◌∙◌}
use Rattle.order_laws.specs.Tables.{all_points}
use Rattle.order_core.specs.Sets.{Orders}
use Rattle.dating_bounds.specs.Pushed.{AreShares}
use Rattle.dating_bounds.proofs.RowsSay.{rank_is}
use Rattle.dating_bounds.proofs.pushes.Shares.passed_rank.Goals as goal

pub returns : goal.returns
returns c =
    let set = c.args.self.now in
    let shares : AreShares set c.self.inside.closure.now c.self.inside.columns c.self.inside.plain =
    subst (λ (s : Orders). AreShares s c.self.inside.closure.now c.self.inside.columns c.self.inside.plain) c.self.view_is c.self.invariant in
    let extents : c.extents.result ≡ set.extents = c.extents.ensures ∙ ap (λ (s : Orders). s.extents) c.self.view_is in
    let dates : c.len.result ≡ length set.dates = c.len.ensures ∙ ap (λ (ts : List ℤ). length ts) (c.dates.ensures ∙ ap (λ (s : Orders). s.dates) c.self.view_is) in
    c.count_passed.ensures.value
    ∙ rank_is set (all_points set.extents (length set.dates)) refl c.args.date c.args.order.now c.args.p c.le_row.result.now c.le_column.result.now c.le_row-2.result.now c.lt_column.result.now
    (c.le_row.ensures.follows set shares.closed) (c.le_column.ensures.follows set shares.columned) (c.le_row-2.ensures.follows set shares.closed) (c.lt_column.ensures.follows set shares.columned)
    (2 * c.extents.result + c.len.result) (omega (arith, extents, dates))
