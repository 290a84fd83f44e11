use Rattle.order_laws.specs.Chains.{order_at}
use Rattle.order_conflicts.specs.Tangles.{is_tied_in}
use Rattle.order_conflicts.proofs.Counting.{pushed}
use Rattle.order_conflicts.proofs.tangles.tied_numbers.Goals as goal

pub loop-n-preserved : goal.loop-n-preserved
loop-n-preserved c =
    pushed (λ n. is_tied_in c.args.analysis.now.set.list c.args.x (order_at c.args.orders.now n)) c.loop-n.n _ c.loop-n.tied.items _
    c.is_tied_in-passes.ensures c.in_ok-push_where.ensures c.loop-n.invariant
