use Rattle.std.proofs.Common.{sym, ◌∙◌}
use Rattle.dating_bounds.proofs.Adding.{plain_pushed}
use Rattle.dating_bounds.proofs.pushes.Shares.with_order.Goals as goal

pub returns : goal.returns
returns c =
    let set = c.args.self.now in
    c.from_vec.ensures
    ∙ (c.in_ok-positions.ensures
    ∙ sym (plain_pushed set.list set.extents set.dates c.conditions.ensures.orders c.conditions.ensures.consistent c.args.date c.requires.date c.args.order.now c.requires.low c.requires.high c.requires.push))
