use Rattle.std.proofs.Common.{◌∙◌, sym, subst, Option, IfSome}
use Rattle.std.specs.Prelude.{map, string_bytes}
use Rattle.crm_outside.specs.Causes.{Rose}
use Rattle.command_words.specs.declared.tasks.Task.{Task}
use Rattle.crm_run.specs.Runs.{Runs}
use Rattle.command_words.specs.Tasks.{IsSound}
use Rattle.crm_run.proofs.Runs.{starved_run, usage_run}
use Rattle.command_words.proofs.Soundness.{task_sound}
use Rattle.crm_run.proofs.running.run_words.Goals as goal

pub run_task-requires : goal.run_task-requires
run_task-requires g c =
    subst (λ (t : Option Task). IfSome t IsSound) (sym c.in-Ok-Some.ensures ∙ c.in-Ok-Some.field-0-is) (task_sound (map string_bytes c.args.words.now))

pub returns-in-Ok-None-clause-runs : goal.returns-in-Ok-None-clause-runs
returns-in-Ok-None-clause-runs g c =
    subst
    (λ (t : Option Task). Runs g.W.Sink.written g.W.Sink.faults g.W.Sink.sure c.args.out.now c.print_report.new.out (g.S.Shelf.files c.args.shelf.now) (g.S.Shelf.honest c.args.shelf.now)
    (Rose (g.S.Shelf.faults c.args.shelf.now) (g.S.Shelf.faults c.args.shelf.now)) t c.print_report.result)
    (sym c.in-Ok-None.field-0-is ∙ c.in-Ok-None.ensures)
    (usage_run g.W.Sink.written g.W.Sink.faults g.W.Sink.sure c.args.out.now c.print_report.new.out (g.S.Shelf.files c.args.shelf.now) (g.S.Shelf.honest c.args.shelf.now)
    (Rose (g.S.Shelf.faults c.args.shelf.now) (g.S.Shelf.faults c.args.shelf.now)) c.print_report.result (rw c.as_bytes.ensures.value at c.print_report.ensures))

pub returns-in-Ok-None-clause-no_form : goal.returns-in-Ok-None-clause-no_form
returns-in-Ok-None-clause-no_form g c = λ _. rw c.as_bytes.ensures.value at c.print_report.ensures

pub returns-in-Err-clause-runs : goal.returns-in-Err-clause-runs
returns-in-Err-clause-runs g c = starved_run g.W.Sink.written g.W.Sink.faults g.W.Sink.sure c.args.out.now _ _ _ _
