use Rattle.std.proofs.Common.{◌<◌, ℕ, length, get_or, arith, refl}
use Rattle.order_conflicts.proofs.Marking.{below_bound, mark_more}
use Rattle.order_conflicts.proofs.suspects.mark_triples.Goals as goal

pub mark-requires : goal.mark-requires
mark-requires c =
    let n : ℕ = get_or c.args.chain.now c.loop-k.k 0 in
    let below : n < length c.args.orders.now = c.requires c.loop-k.k 0 c.loop-k-test.true in
    omega (arith, below_bound c.args.orders.now n below, c.loop-k.invariant.size)

pub loop-k-preserved : goal.loop-k-preserved
loop-k-preserved c =
    mark_more c.args.orders.now c.args.chain.now c.loop-k.on c.mark.new.on c.loop-k.k _ c.loop-k-test.true refl c.loop-k.invariant c.mark.ensures.size c.mark.ensures.marks
