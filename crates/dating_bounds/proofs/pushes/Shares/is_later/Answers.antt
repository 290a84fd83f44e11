use Rattle.std.proofs.Common.{◌≡◌, ◌≤◌, ◌<◌, ◌+◌, ℤ, List, length, arith, ap, subst, ◌∙◌}
use Rattle.std.proofs.lemmas.Bool.{le-ltb}
use Rattle.order_core.specs.Sets.{Orders}
use Rattle.dating_bounds.specs.Pushed.{AreShares}
use Rattle.dating_bounds.proofs.RowsSay.{later_is, latest_is}
use Rattle.dating_bounds.proofs.pushes.Shares.is_later.Goals as goal

pub returns-then-date-len : goal.returns-then-date-len
returns-then-date-len c =
    let shares : AreShares c.args.self.now c.self.inside.closure.now c.self.inside.columns c.self.inside.plain =
    subst (λ (s : Orders). AreShares s c.self.inside.closure.now c.self.inside.columns c.self.inside.plain) c.self.view_is c.self.invariant in
    let dates : c.len.result ≡ length c.args.self.now.dates = c.len.ensures ∙ ap (λ (ts : List ℤ). length ts) (c.dates.ensures ∙ ap (λ (s : Orders). s.dates) c.self.view_is) in
    let later : c.args.date + 1 < length c.args.self.now.dates = omega (arith, dates, c.if-date-len.true) in
    c.follows.ensures ∙ later_is c.args.self.now c.self.inside.closure.now c.self.inside.columns c.self.inside.plain shares c.args.p c.requires.p c.args.date later

pub returns-else-date-len : goal.returns-else-date-len
returns-else-date-len c =
    let shares : AreShares c.args.self.now c.self.inside.closure.now c.self.inside.columns c.self.inside.plain =
    subst (λ (s : Orders). AreShares s c.self.inside.closure.now c.self.inside.columns c.self.inside.plain) c.self.view_is c.self.invariant in
    let dates : c.len.result ≡ length c.args.self.now.dates = c.len.ensures ∙ ap (λ (ts : List ℤ). length ts) (c.dates.ensures ∙ ap (λ (s : Orders). s.dates) c.self.view_is) in
    let last : length c.args.self.now.dates ≤ c.args.date + 1 = omega (arith, dates, c.if-date-len.false) in
    le-ltb (c.args.date + 1) c.len.result c.if-date-len.false
    ∙ latest_is c.args.self.now c.self.inside.closure.now c.self.inside.columns c.self.inside.plain shares c.args.p c.args.date last
