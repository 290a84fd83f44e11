use Rattle.std.proofs.Common.{ap}
use Rattle.triple_pool.specs.Pool.{Numbered}
use Rattle.triple_pool.specs.Tables.{ends_in}
use Rattle.triple_pool.proofs.Pooling.{slot_found_in, slot_missing_in}
use Rattle.triple_pool.proofs.pool.TriplePool.slot.Goals as goal

pub returns-then-is_held_at : goal.returns-then-is_held_at
returns-then-is_held_at c =
    slot_found_in c.self.inside.slots.items c.as_slice-slots.result.now (ends_in c.self.inside.subjects) (ends_in c.self.inside.predicates) (ends_in c.self.inside.objects)
    c.args.i c.args.self.now.pairs c.is_held_at.result c.self.invariant.stored (ap (λ (v : Numbered). v.pairs) c.self.view_is)
    c.as_slice-slots.ensures.value c.is_held_at.ensures.held c.if-is_held_at.true

pub returns-else-is_held_at : goal.returns-else-is_held_at
returns-else-is_held_at c =
    slot_missing_in c.self.inside.slots.items c.as_slice-slots.result.now c.args.i c.args.self.now.pairs c.is_held_at.result (ap (λ (v : Numbered). v.pairs) c.self.view_is)
    c.as_slice-slots.ensures.value c.is_held_at.ensures.held c.if-is_held_at.false
