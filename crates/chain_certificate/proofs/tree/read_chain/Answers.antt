use Rattle.std.proofs.Common.{arith}
use Rattle.chain_certificate.proofs.Extract.{read_more}
use Rattle.chain_certificate.proofs.tree.read_chain.Goals as goal

pub loop-at-preserved : goal.loop-at-preserved
loop-at-preserved c =
    rw c.in_ok-push.ensures.items (
      omega (arith, c.requires.parents.earlier c.loop-at.at c.loop-at-test.true c.loop-at.invariant.0, c.loop-at.invariant.0),
      read_more c.args.nodes.now c.requires.parents c.args.node c.loop-at.at c.loop-at.chain.items c.loop-at-test.true c.loop-at.invariant.0 c.loop-at.invariant.1,
    )
