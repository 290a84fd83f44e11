use Rattle.order_conflicts.specs.Tangles.{tangle_at}
use Rattle.order_conflicts.proofs.Counting.{mapped_more}
use Rattle.order_conflicts.proofs.tangles.tangles_at.Goals as goal

pub loop-k-preserved : goal.loop-k-preserved
loop-k-preserved c =
    mapped_more (tangle_at c.args.analysis.now.set) c.args.least.now c.loop-k.k _ c.in_ok-tangle.tangle c.loop-k.tangles.items _ c.loop-k-test.true
    c.in_ok-tangle.ensures c.in_ok-push.ensures.items c.loop-k.invariant
