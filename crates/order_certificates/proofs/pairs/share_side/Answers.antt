use Rattle.std.proofs.Common.{◌++◌, ◌∙◌, List, ℕ, ap, sym}
use Rattle.order_certificates.specs.Sharing.{chain_part, chain_lets, chain_lines}
use Rattle.order_certificates.proofs.pairs.share_side.Goals as goal

pub returns-clause-sharing : goal.returns-clause-sharing
returns-clause-sharing c = record { routes = c.requires.sharing.routes; parts = c.in_ok-proof.ensures.kept }

pub returns-clause-part : goal.returns-clause-part
returns-clause-part c = c.in_ok-proof.ensures.part ∙ ap (chain_part c.args.lets.now) (sym c.side_end-node.ensures.chain)

pub returns-clause-lets : goal.returns-clause-lets
returns-clause-lets c = c.in_ok-proof.ensures.lets ∙ ap (chain_lets c.args.lets.now) (sym c.side_end-node.ensures.chain)

pub returns-clause-line : goal.returns-clause-line
returns-clause-line c =
    c.in_ok-proof.ensures.line ∙ ap (λ (ns : List ℕ). c.args.line.now.items ++ chain_lines c.args.lets.now ns) (sym c.side_end-node.ensures.chain)
