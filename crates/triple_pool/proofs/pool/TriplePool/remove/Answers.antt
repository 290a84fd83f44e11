use Rattle.std.proofs.Common.{ap, sym, ◌∙◌, List, length, Some}
use Rattle.rdf_terms.specs.declared.terms.Triple.{Triple}
use Rattle.triple_pool.specs.declared.Slot.{Slot}
use Rattle.triple_pool.specs.Pool.{Numbered}
use Rattle.triple_pool.specs.Chains.{slot_at}
use Rattle.triple_pool.specs.Tables.{ends_in, number_in}
use Rattle.triple_pool.proofs.Listing.{without_missing}
use Rattle.triple_pool.proofs.Pooling.{slot_missing_in, held_from, held_one, pool_removed_in, replaced, triple_there}
use Rattle.triple_pool.proofs.pool.TriplePool.remove.Goals as goal

pub returns-then-not-is_held_at-clause-triple : goal.returns-then-not-is_held_at-clause-triple
returns-then-not-is_held_at-clause-triple c =
    sym (slot_missing_in c.self.inside.slots.items c.as_slice.result.now c.args.i c.args.self.now.pairs c.is_held_at.result (ap (λ (v : Numbered). v.pairs) c.self.view_is)
    c.as_slice.ensures.value c.is_held_at.ensures.held c.if-not-is_held_at.true)

pub returns-then-not-is_held_at-clause-pairs : goal.returns-then-not-is_held_at-clause-pairs
returns-then-not-is_held_at-clause-pairs c =
    sym (without_missing c.args.i c.args.self.now.pairs
    (slot_missing_in c.self.inside.slots.items c.as_slice.result.now c.args.i c.args.self.now.pairs c.is_held_at.result (ap (λ (v : Numbered). v.pairs) c.self.view_is)
    c.as_slice.ensures.value c.is_held_at.ensures.held c.if-not-is_held_at.true))

pub overflow_sub-self : goal.overflow_sub-self
overflow_sub-self c =
    held_one c.self.inside.slots.items c.self.inside.held c.args.i c.self.invariant.count
    (held_from c.self.inside.slots.items c.as_slice.result.now c.args.i c.is_held_at.result c.as_slice.ensures.value c.is_held_at.ensures.held c.if-not-is_held_at.false)

pub invariant_of-self : goal.invariant_of-self
invariant_of-self c =
    rw (replaced c.self.inside.slots.len c.release-triple.new.slots c.self.inside.slots.items
    (c.release-triple.ensures.size ∙ ap length c.as_mut_slice.ensures.value) (sym c.as_mut_slice.ensures.len ∙ ap length c.as_mut_slice.ensures.value))
    (pool_removed_in c.self.inside.slots.items c.as_mut_slice.result.now c.release-triple.new.slots
    (ends_in c.self.inside.subjects) (ends_in c.self.inside.predicates) (ends_in c.self.inside.objects)
    (ends_in c.release-triple.new.subjects) (ends_in c.release-triple.new.predicates) (ends_in c.release-triple.new.objects)
    (number_in c.self.inside.numbers) c.self.inside.held c.args.i c.as_mut_slice.ensures.value c.self.invariant c.release-triple.ensures.stored c.release-triple.ensures.tabled c.release-triple.ensures.size c.release-triple.ensures.pairs
    (held_from c.self.inside.slots.items c.as_slice.result.now c.args.i c.is_held_at.result c.as_slice.ensures.value c.is_held_at.ensures.held c.if-not-is_held_at.false))

pub returns-clause-triple : goal.returns-clause-triple
returns-clause-triple c =
    ap (λ (t : Triple). Some t) (c.release-triple.ensures.triple ∙ ap (λ (zs : List Slot). (slot_at zs c.args.i).triple) c.as_mut_slice.ensures.value)
    ∙ sym (triple_there c.self.inside.slots.items c.args.i c.args.self.now.pairs (ap (λ (v : Numbered). v.pairs) c.self.view_is)
    (held_from c.self.inside.slots.items c.as_slice.result.now c.args.i c.is_held_at.result c.as_slice.ensures.value c.is_held_at.ensures.held c.if-not-is_held_at.false))
