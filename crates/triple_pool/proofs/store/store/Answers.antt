use Rattle.std.proofs.Common.{length, rules, arith}
use Rattle.triple_pool.specs.declared.Place.TheVariants.{Subject, Predicate, Object}
use Rattle.triple_pool.specs.Tables.{ends_in, number_in}
use Rattle.triple_pool.proofs.Storing.{grown_stored, grown_pairs, grown_tabled, grown_size, ends_within, added_at}
use Rattle.triple_pool.proofs.store.store.Goals as goal

pub returns-clause-pairs : goal.returns-clause-pairs
returns-clause-pairs c =
    grown_pairs c.args.slots.now.items c.args.triple c.ends_of-subject.result c.ends_of-predicate.result c.ends_of-object.result
    (ends_within Subject c.args.slots.now.items (ends_in c.args.subjects.now) c.args.triple.s c.ends_of-subject.result c.requires.stored.subject.ended c.ends_of-subject.ensures)
    (ends_within Predicate c.args.slots.now.items (ends_in c.args.predicates.now) c.args.triple.p c.ends_of-predicate.result c.requires.stored.predicate.ended c.ends_of-predicate.ensures)
    (ends_within Object c.args.slots.now.items (ends_in c.args.objects.now) c.args.triple.o c.ends_of-object.result c.requires.stored.object.ended c.ends_of-object.ensures)
    c.add_record.new.slots.items c.add_record.ensures

pub returns-clause-stored : goal.returns-clause-stored
returns-clause-stored c =
    grown_stored c.args.slots.now.items c.args.triple c.ends_of-subject.result c.ends_of-predicate.result c.ends_of-object.result
    (ends_within Subject c.args.slots.now.items (ends_in c.args.subjects.now) c.args.triple.s c.ends_of-subject.result c.requires.stored.subject.ended c.ends_of-subject.ensures)
    (ends_within Predicate c.args.slots.now.items (ends_in c.args.predicates.now) c.args.triple.p c.ends_of-predicate.result c.requires.stored.predicate.ended c.ends_of-predicate.ensures)
    (ends_within Object c.args.slots.now.items (ends_in c.args.objects.now) c.args.triple.o c.ends_of-object.result c.requires.stored.object.ended c.ends_of-object.ensures)
    c.add_record.new.slots.items c.add_record.ensures
    (ends_in c.args.subjects.now) (ends_in c.args.predicates.now) (ends_in c.args.objects.now)
    (ends_in c.put_last.new.table) (ends_in c.put_last-2.new.table) (ends_in c.put_last-3.new.table)
    c.requires.stored c.ends_of-subject.ensures c.ends_of-predicate.ensures c.ends_of-object.ensures
    (added_at (ends_in c.args.subjects.now) (ends_in c.put_last.new.table) c.args.triple.s c.len-number.result (length c.args.slots.now.items) (search rules) c.put_last.ensures)
    (added_at (ends_in c.args.predicates.now) (ends_in c.put_last-2.new.table) c.args.triple.p c.len-number.result (length c.args.slots.now.items) (omega arith) c.put_last-2.ensures)
    (added_at (ends_in c.args.objects.now) (ends_in c.put_last-3.new.table) c.args.triple.o c.len-number.result (length c.args.slots.now.items) (omega arith) c.put_last-3.ensures)

pub returns-clause-tabled : goal.returns-clause-tabled
returns-clause-tabled c =
    grown_tabled c.args.slots.now.items c.args.triple c.ends_of-subject.result c.ends_of-predicate.result c.ends_of-object.result
    (ends_within Subject c.args.slots.now.items (ends_in c.args.subjects.now) c.args.triple.s c.ends_of-subject.result c.requires.stored.subject.ended c.ends_of-subject.ensures)
    (ends_within Predicate c.args.slots.now.items (ends_in c.args.predicates.now) c.args.triple.p c.ends_of-predicate.result c.requires.stored.predicate.ended c.ends_of-predicate.ensures)
    (ends_within Object c.args.slots.now.items (ends_in c.args.objects.now) c.args.triple.o c.ends_of-object.result c.requires.stored.object.ended c.ends_of-object.ensures)
    c.add_record.new.slots.items c.add_record.ensures (number_in c.args.numbers.now) (number_in c.put_number.new.numbers)
    c.requires.tabled c.requires.new c.len-number.result (omega arith) c.put_number.ensures

pub returns-clause-size : goal.returns-clause-size
returns-clause-size c =
    grown_size c.args.slots.now.items c.args.triple c.ends_of-subject.result c.ends_of-predicate.result c.ends_of-object.result
    (ends_within Subject c.args.slots.now.items (ends_in c.args.subjects.now) c.args.triple.s c.ends_of-subject.result c.requires.stored.subject.ended c.ends_of-subject.ensures)
    (ends_within Predicate c.args.slots.now.items (ends_in c.args.predicates.now) c.args.triple.p c.ends_of-predicate.result c.requires.stored.predicate.ended c.ends_of-predicate.ensures)
    (ends_within Object c.args.slots.now.items (ends_in c.args.objects.now) c.args.triple.o c.ends_of-object.result c.requires.stored.object.ended c.ends_of-object.ensures)
    c.add_record.new.slots.items c.add_record.ensures
