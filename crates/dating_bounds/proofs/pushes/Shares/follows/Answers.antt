use Rattle.std.proofs.Common.{◌∙◌, ap, subst}
use Rattle.order_core.specs.Sets.{Orders}
use Rattle.dating_bounds.specs.Moment.{is_enough}
use Rattle.dating_bounds.specs.Pushed.{AreShares}
use Rattle.dating_bounds.proofs.Agreeing.{entry_is}
use Rattle.dating_bounds.proofs.pushes.Shares.follows.Goals as goal

pub returns : goal.returns
returns c =
    let shares : AreShares c.args.self.now c.self.inside.closure.now c.self.inside.columns c.self.inside.plain =
    subst (λ (s : Orders). AreShares s c.self.inside.closure.now c.self.inside.columns c.self.inside.plain) c.self.view_is c.self.invariant in
    c.follows.ensures
    ∙ ap (is_enough c.args.strict) (entry_is c.args.self.now c.self.inside.closure.now shares.closed c.args.x c.args.y c.requires.x c.requires.y)
