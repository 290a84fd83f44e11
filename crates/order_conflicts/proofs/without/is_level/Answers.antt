use Rattle.std.proofs.Common.{arith}
use Rattle.chain_certificate.specs.Routes.{points_of}
use Rattle.order_conflicts.proofs.Returns.{one_layer}
use Rattle.order_conflicts.proofs.without.is_level.Goals as goal

pub returns : goal.returns
returns c = λ e r.
    (let level = one_layer c.args.set.now c.args.triple (points_of c.args.set.now) c.args.layers.now c.requires.layers c.args.n r in
    grind (arith, level, c.ends_of-ends.ensures.low, c.ends_of-ends.ensures.high, e))
