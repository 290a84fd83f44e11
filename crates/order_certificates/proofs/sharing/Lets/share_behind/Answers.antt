use Rattle.order_certificates.proofs.Shares.{next_shared}
use Rattle.order_certificates.proofs.sharing.Lets.share_behind.Goals as goal

pub loop-order-preserved : goal.loop-order-preserved
loop-order-preserved c =
    next_shared c.args.self.now c.args.front c.args.orders.now c.loop-order.order-index _ _ _ _ _ _ c.args.line.now.items c.loop-order-test.true
    c.loop-order.invariant c.in_ok-part.ensures.part c.in_ok-part.ensures.lets c.in_ok-part.ensures.line
