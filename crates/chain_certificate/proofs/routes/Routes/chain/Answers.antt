use Rattle.std.proofs.Common.{◌≡◌, ℕ, List, ◌∙◌, arith, ap, sym}
use Rattle.std.specs.Prelude.{Some}
use Rattle.order_laws.proofs.ChainSearch.{found_first}
use Rattle.order_laws.specs.ChainSearch.{first_chain}
use Rattle.chain_certificate.specs.declared.tree.Node.{Node}
use Rattle.order_laws.specs.declared.Point.{Point}
use Rattle.order_core.specs.Sets.{Orders}
use Rattle.chain_certificate.specs.Routes.{Routing, IsRoutesOf}
use Rattle.chain_certificate.proofs.Computed.{ends_at, ends_nowhere, no_chain}
use Rattle.chain_certificate.specs.Tree.{chain_of}
use Rattle.chain_certificate.proofs.routes.Routes.chain.Goals as goal

pub returns-then-node-eq0-clause-none : goal.returns-then-node-eq0-clause-none
returns-then-node-eq0-clause-none c = λ set source of ns chain shown.
    no_chain set.list source c.args.target c.args.strict
    (ends_nowhere (first_chain set.list source c.args.target c.args.strict) c.args.self.now.nodes c.end-node.result c.if-node-eq0.true (c.end-node.ensures.chain set source of))
    ns chain shown

read : (c : goal.After-from_vec) (set : Orders) (source : Point) → IsRoutesOf set source c.args.self.now →
    Some c.from_vec.result ≡ first_chain set.list source c.args.target c.args.strict
read c set source of =
    let read : c.from_vec.result ≡ chain_of c.args.self.now.nodes c.end-node.result =
    c.from_vec.ensures ∙ c.in_ok-orders.ensures
    ∙ ap (λ (l : List Node). chain_of l c.end-node.result) (c.deref.ensures.value ∙ ap (λ (r : Routing). r.nodes) c.self.view_is) in
    ap (λ (l : List ℕ). Some l) read
    ∙ sym (ends_at (first_chain set.list source c.args.target c.args.strict) c.args.self.now.nodes c.end-node.result (omega (arith, c.if-node-eq0.false))
    (c.end-node.ensures.chain set source of))

pub returns-clause-some : goal.returns-clause-some
returns-clause-some c = λ set source of.
    found_first set.list source c.args.target c.args.strict c.from_vec.result (sym (read c set source of))

pub returns-then-node-eq0-clause-computed : goal.returns-then-node-eq0-clause-computed
returns-then-node-eq0-clause-computed c = λ set source of.
    sym (ends_nowhere (first_chain set.list source c.args.target c.args.strict) c.args.self.now.nodes c.end-node.result c.if-node-eq0.true (c.end-node.ensures.chain set source of))

pub returns-clause-computed : goal.returns-clause-computed
returns-clause-computed c = λ set source of. read c set source of
