use Rattle.chain_certificate.proofs.Computed.{end_computed}
use Rattle.chain_certificate.proofs.routes.Routes.end.Goals as goal

pub returns-clause-chain : goal.returns-clause-chain
returns-clause-chain c = λ set source of. end_computed set source c.args.self.now of c.args.target c.args.strict c.node.result c.requires c.node.ensures.picked
