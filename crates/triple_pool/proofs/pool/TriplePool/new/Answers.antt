use Rattle.triple_pool.specs.Tables.{ends_in, number_in}
use Rattle.triple_pool.proofs.Pooling.{empty_pool, empty_ends, empty_numbers}
use Rattle.triple_pool.proofs.pool.TriplePool.new.Goals as goal

pub invariant_of-result : goal.invariant_of-result
invariant_of-result c =
    empty_pool (ends_in c.new-2.result) (ends_in c.new-3.result) (ends_in c.new-4.result) (number_in c.new-5.result) c.new.result.items c.new.ensures.items
    (empty_ends c.new-2.result.entries c.new-2.ensures.empty) (empty_ends c.new-3.result.entries c.new-3.ensures.empty) (empty_ends c.new-4.result.entries c.new-4.ensures.empty) (empty_numbers c.new-5.result.entries c.new-5.ensures.empty)
