use Rattle.std.proofs.Common.{List, ap, ◌∙◌}
use Rattle.triple_pool.specs.declared.Slot.{Slot}
use Rattle.triple_pool.specs.declared.Place.TheVariants.{Predicate, Object}
use Rattle.triple_pool.specs.Chains.{slot_at, bridged}
use Rattle.triple_pool.proofs.store.let_record_go.Goals as goal

pub returns : goal.returns
returns c =
    c.bridge-3.ensures
    ∙ ap (λ (r : List Slot). bridged Object r (slot_at c.args.records.now c.args.number).object)
    (c.bridge-2.ensures ∙ ap (λ (r : List Slot). bridged Predicate r (slot_at c.args.records.now c.args.number).predicate) c.bridge.ensures)
