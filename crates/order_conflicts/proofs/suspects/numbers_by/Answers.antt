use Rattle.order_laws.specs.Chains.{order_at}
use Rattle.order_conflicts.specs.Suspects.{is_made_by}
use Rattle.order_conflicts.proofs.Counting.{pushed}
use Rattle.order_conflicts.proofs.suspects.numbers_by.Goals as goal

pub loop-n-preserved : goal.loop-n-preserved
loop-n-preserved c =
    pushed (λ n. is_made_by c.args.triple (order_at c.args.orders.now n)) c.loop-n.n _ c.loop-n.numbers.items _
    c.is_made_by.ensures c.in_ok-push_where.ensures c.loop-n.invariant
