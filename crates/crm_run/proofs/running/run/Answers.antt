use Rattle.std.specs.Prelude.{map, string_bytes}
use Rattle.crm_outside.specs.Causes.{Rose}
use Rattle.command_words.specs.Tasks.{task_named}
use Rattle.crm_run.proofs.AnyOrder.{order_is_free}
use Rattle.crm_run.proofs.Endings.{calm, certain}
use Rattle.crm_run.proofs.Headlines.{headline}
use Rattle.crm_run.proofs.running.run.Goals as goal

pub returns-clause-any_order : goal.returns-clause-any_order
returns-clause-any_order g c =
    order_is_free c.what_is_found_is_the_same_in_any_order.ensures c.parts_of_names_in_another_order.ensures
    (g.S.Shelf.files c.args.shelf.now) (task_named (map string_bytes c.args.words.now))

pub returns-clause-calm : goal.returns-clause-calm
returns-clause-calm g c = λ read write.
    calm g.W.Sink.written g.W.Sink.faults g.W.Sink.sure c.args.out.now c.run_words.new.out c.run_words.result
    (Rose (g.S.Shelf.faults c.args.shelf.now) (g.S.Shelf.faults c.run_words.new.shelf)) (g.S.Shelf.files c.args.shelf.now) (task_named (map string_bytes c.args.words.now))
    c.run_words.ensures.runs.report read write

pub returns-clause-certain : goal.returns-clause-certain
returns-clause-certain g c = λ honest.
    certain g.W.Sink.written g.W.Sink.faults g.W.Sink.sure c.args.out.now c.run_words.new.out c.run_words.result (g.S.Shelf.files c.args.shelf.now)
    (task_named (map string_bytes c.args.words.now)) (c.run_words.ensures.runs.honest honest)

pub returns-clause-headline : goal.returns-clause-headline
returns-clause-headline g c =
    headline c.reports_are_true.ensures c.answers_are_true.ensures c.orders_of_records_are_a_set.ensures.orders c.orders_of_records_are_a_set.ensures.periods
    c.tables_are_true.ensures c.lists_are_true.ensures c.bounds_are_true.ensures c.moments_are_true.ensures c.conflicts_are_true.ensures g.W.Sink.written g.W.Sink.faults g.W.Sink.sure c.args.out.now c.run_words.new.out c.run_words.result
    (Rose (g.S.Shelf.faults c.args.shelf.now) (g.S.Shelf.faults c.run_words.new.shelf)) (g.S.Shelf.files c.args.shelf.now) (task_named (map string_bytes c.args.words.now))
    c.run_words.ensures.runs.report
