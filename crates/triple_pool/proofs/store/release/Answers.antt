use Rattle.triple_pool.specs.Tables.{ends_in}
use Rattle.triple_pool.proofs.Chaining.{held_in}
use Rattle.triple_pool.proofs.Releasing.{shrunk_stored, shrunk_pairs, shrunk_tabled, neighbours_within}
use Rattle.triple_pool.proofs.store.release.Goals as goal

pub returns-clause-pairs : goal.returns-clause-pairs
returns-clause-pairs c =
    shrunk_pairs c.args.slots.now c.args.number (held_in c.args.slots.now c.args.number c.requires.held)
    (neighbours_within c.args.slots.now c.args.number (ends_in c.args.subjects.now) (ends_in c.args.predicates.now) (ends_in c.args.objects.now) c.requires.stored c.requires.held)
    c.let_record_go.new.records c.let_record_go.ensures

pub returns-clause-stored : goal.returns-clause-stored
returns-clause-stored c =
    shrunk_stored c.args.slots.now c.args.number (held_in c.args.slots.now c.args.number c.requires.held)
    (neighbours_within c.args.slots.now c.args.number (ends_in c.args.subjects.now) (ends_in c.args.predicates.now) (ends_in c.args.objects.now) c.requires.stored c.requires.held)
    c.let_record_go.new.records c.let_record_go.ensures (ends_in c.args.subjects.now) (ends_in c.args.predicates.now) (ends_in c.args.objects.now)
    (ends_in c.close_entry.new.table) (ends_in c.close_entry-2.new.table) (ends_in c.close_entry-3.new.table)
    c.requires.stored c.requires.held c.close_entry.ensures c.close_entry-2.ensures c.close_entry-3.ensures

pub returns-clause-tabled : goal.returns-clause-tabled
returns-clause-tabled c =
    shrunk_tabled c.args.slots.now c.args.number (held_in c.args.slots.now c.args.number c.requires.held)
    (neighbours_within c.args.slots.now c.args.number (ends_in c.args.subjects.now) (ends_in c.args.predicates.now) (ends_in c.args.objects.now) c.requires.stored c.requires.held)
    c.let_record_go.new.records c.let_record_go.ensures
