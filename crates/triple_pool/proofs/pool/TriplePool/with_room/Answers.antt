use Rattle.triple_pool.specs.Tables.{ends_in, number_in}
use Rattle.triple_pool.proofs.Pooling.{empty_pool, empty_ends, empty_numbers}
use Rattle.triple_pool.proofs.pool.TriplePool.with_room.Goals as goal

pub invariant_of-result : goal.invariant_of-result
invariant_of-result c =
    empty_pool (ends_in c.in_ok-subjects.subjects) (ends_in c.new.result) (ends_in c.in_ok-objects.objects) (number_in c.in_ok-numbers.numbers)
    c.in_ok-slots.slots.items c.in_ok-slots.ensures.items
    (empty_ends c.in_ok-subjects.subjects.entries c.in_ok-subjects.ensures.empty) (empty_ends c.new.result.entries c.new.ensures.empty)
    (empty_ends c.in_ok-objects.objects.entries c.in_ok-objects.ensures.empty) (empty_numbers c.in_ok-numbers.numbers.entries c.in_ok-numbers.ensures.empty)
