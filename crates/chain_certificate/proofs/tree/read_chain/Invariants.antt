use Rattle.std.proofs.Common.{◌≡◌, ◌++◌, ◌<◌, length, reverse}
use Rattle.chain_certificate.specs.Tree.{chain_of}
use Rattle.chain_certificate.proofs.tree.read_chain.Given as goal

abbrev pub invariant-loop-at : goal.invariant-loop-at
invariant-loop-at l = (l.at < length l.nodes) × (chain_of l.nodes l.fn.node ≡ chain_of l.nodes l.at ++ reverse l.chain.items)

abbrev pub decreases-loop-at : goal.decreases-loop-at
decreases-loop-at l = l.at
