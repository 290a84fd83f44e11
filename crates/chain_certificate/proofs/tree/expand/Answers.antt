use Rattle.std.proofs.Common.{◌∙◌, ap}
use Rattle.chain_certificate.specs.Tree.{pair_of}
use Rattle.chain_certificate.proofs.Steps.{read_node}
use Rattle.chain_certificate.proofs.Taking.{searching_skip}
use Rattle.chain_certificate.proofs.tree.expand.Goals as goal

pub returns-then-is_again-clause-searching : goal.returns-then-is_again-clause-searching
returns-then-is_again-clause-searching g c =
    searching_skip _ _ _ _ _ _ c.requires.searching c.requires.later
    (ap pair_of (read_node c.args.nodes.now.items c.args.head c.index.result.now c.requires.head c.index.ensures) ∙ c.is_again.ensures.0 c.if-is_again.true)
