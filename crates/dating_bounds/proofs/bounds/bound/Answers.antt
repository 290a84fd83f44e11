use Rattle.std.proofs.Common.{◌≡◌, ℤ, List, length, ap, sym, ◌∙◌, subst}
use Rattle.order_closure.specs.Closures.{between}
use Rattle.dating_bounds.specs.declared.extremes.Bound.{Bound}
use Rattle.dating_bounds.specs.Around.{IsBoundOf, low_at, high_at}
use Rattle.dating_bounds.proofs.Agreeing.{bound_computed}
use Rattle.dating_bounds.proofs.Bounding.{boundary_point, bound_is}
use Rattle.dating_bounds.proofs.bounds.bound.Goals as goal

pub returns-clause-computed : goal.returns-clause-computed
returns-clause-computed c =
    let dates : c.len-dates.result ≡ length c.args.set.now.dates = c.len-dates.ensures ∙ ap (λ (ts : List ℤ). length ts) c.dates.ensures in
    bound_computed c.args.set.now c.args.closure.now c.requires.closure c.args.p
    (boundary_point c.args.set.now.extents (length c.args.set.now.dates) c.args.p c.requires.boundary) c.low_bound.result c.high_bound.result
    (c.low_bound.ensures ∙ ap (low_at (between c.args.closure.now) c.args.p) c.floor.ensures.value)
    (c.high_bound.ensures ∙ ap (λ n. high_at (between c.args.closure.now) n c.args.p c.ceiling.result) dates
    ∙ ap (high_at (between c.args.closure.now) (length c.args.set.now.dates) c.args.p) c.ceiling.ensures.value)

pub returns-clause-bound : goal.returns-clause-bound
returns-clause-bound c =
    let dates : c.len-dates.result ≡ length c.args.set.now.dates = c.len-dates.ensures ∙ ap (λ (ts : List ℤ). length ts) c.dates.ensures in
    let is = bound_computed c.args.set.now c.args.closure.now c.requires.closure c.args.p
    (boundary_point c.args.set.now.extents (length c.args.set.now.dates) c.args.p c.requires.boundary) c.low_bound.result c.high_bound.result
    (c.low_bound.ensures ∙ ap (low_at (between c.args.closure.now) c.args.p) c.floor.ensures.value)
    (c.high_bound.ensures ∙ ap (λ n. high_at (between c.args.closure.now) n c.args.p c.ceiling.result) dates
    ∙ ap (high_at (between c.args.closure.now) (length c.args.set.now.dates) c.args.p) c.ceiling.ensures.value) in
    subst (λ (b : Bound). IsBoundOf c.args.set.now c.args.p b) (sym is) (bound_is c.args.set.now c.requires.closure.of_set.orders c.requires.consistent c.args.p c.requires.boundary)
