use Rattle.std.proofs.Common.{◌∙◌}
use Rattle.placing_witness.proofs.Final.{plain_is}
use Rattle.placing_witness.proofs.placings.plain.Goals as goal

pub returns : goal.returns
returns c =
    let b = c.in_ok-base.ensures in
    c.from_vec.ensures
    ∙ plain_is c.args.set.now c.args.closure.now b.closed b.consistent c.in_ok-base.base.points.items c.in_ok-base.base.positions.items b.listed b.placed
