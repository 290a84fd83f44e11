use Rattle.std.proofs.Common.{◌≡◌, ◌<◌, List, length, ap, subst, sym}
use Rattle.chain_certificate.specs.declared.tree.Node.{Node}
use Rattle.chain_certificate.specs.Routes.{Routing}
use Rattle.chain_certificate.specs.Tree.{node_at}
use Rattle.chain_certificate.proofs.Extract.{last_one, last_earlier}
use Rattle.chain_certificate.proofs.Steps.{read_node}
use Rattle.chain_certificate.proofs.routes.Routes.last_step.Goals as goal

pub returns-clause-earlier : goal.returns-clause-earlier
returns-clause-earlier c =
    let nodes : c.self.inside.nodes.items ≡ c.args.self.now.nodes = ap (λ (r : Routing). r.nodes) c.self.view_is in
    let P : List Node → Type 0 = λ l. c.args.node < length l in
    let read : node_at c.self.inside.nodes.items c.args.node ≡ c.index-last.result.now =
    read_node c.self.inside.nodes.items c.args.node c.index-last.result.now (subst P (sym nodes) c.requires.within) c.index-last.ensures in
    last_earlier c.args.self.now.nodes c.self.inside.nodes.items c.self.invariant.2.parents nodes c.args.node c.index-last.result.now
    c.requires.some c.requires.within read

pub returns-clause-chain : goal.returns-clause-chain
returns-clause-chain c =
    let nodes : c.self.inside.nodes.items ≡ c.args.self.now.nodes = ap (λ (r : Routing). r.nodes) c.self.view_is in
    let P : List Node → Type 0 = λ l. c.args.node < length l in
    let read : node_at c.self.inside.nodes.items c.args.node ≡ c.index-last.result.now =
    read_node c.self.inside.nodes.items c.args.node c.index-last.result.now (subst P (sym nodes) c.requires.within) c.index-last.ensures in
    last_one c.args.self.now.nodes c.self.inside.nodes.items c.self.invariant.2.parents nodes c.args.node c.index-last.result.now
    c.requires.some c.requires.within read
