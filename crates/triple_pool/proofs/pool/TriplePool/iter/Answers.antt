use Rattle.std.proofs.Common.{ap}
use Rattle.triple_pool.specs.Pool.{Numbered}
use Rattle.triple_pool.proofs.Listing.{numbered_pairs}
use Rattle.triple_pool.proofs.pool.TriplePool.iter.Goals as goal

pub returns-clause-ascending : goal.returns-clause-ascending
returns-clause-ascending c = numbered_pairs c.self.inside.slots.items c.args.self.now.pairs (ap (λ (v : Numbered). v.pairs) c.self.view_is)
