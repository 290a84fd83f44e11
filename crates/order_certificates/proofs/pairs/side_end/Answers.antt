use Rattle.order_core.specs.Sides.{left_point, right_point}
use Rattle.order_certificates.proofs.Ends.{side_found}
use Rattle.order_certificates.proofs.pairs.side_end.Goals as goal

pub returns-clause-chain : goal.returns-clause-chain
returns-clause-chain c =
    let x = left_point c.args.side c.args.a in
    side_found c.args.analysis.now.set.list x (right_point c.args.side c.args.b) c.right-target.result c.is_before-strict.result c.args.routes.now.nodes c.end.result
    (c.end.ensures.chain c.args.analysis.now.set x c.requires.routes) c.right-target.ensures c.is_before-strict.ensures
