use Rattle.std.proofs.Common.{arith, ap, length}
use Rattle.triple_pool.specs.Pool.{Numbered}
use Rattle.triple_pool.proofs.Listing.{pairs_few}
use Rattle.triple_pool.proofs.pool.TriplePool.len.Goals as goal

pub returns-clause-few : goal.returns-clause-few
returns-clause-few c =
    omega (arith, pairs_few 0 c.self.inside.slots.items, c.self.invariant.few, ap (λ (v : Numbered). length v.pairs) c.self.view_is)
