use Rattle.std.proofs.Common.{◌≡◌, ◌∙◌, List, ℕ, [], subst}
use Rattle.std.proofs.lemmas.List.{get_or_read}
use Rattle.archive_join.specs.Refusals.{file_refusal_report}
use Rattle.crm_run.specs.Joins.{name_at}
use Rattle.crm_run.specs.Outcomes.{IsToldBy}
use Rattle.crm_run.proofs.Runs.{join_not_read, join_run}
use Rattle.crm_run.proofs.joining.run_join.Goals as goal

pub returns-in-Ok : goal.returns-in-Ok
returns-in-Ok g c =
    rw c.ended.ensures
    (join_run g.W.Sink.written g.W.Sink.faults g.W.Sink.sure c.args.out.now c.write_joined.new.out _ _ _ c.args.base.now c.args.report c.args.files.now c.in-Ok.joining
    c.write_joined.result c.in-Ok.ensures.ok c.write_joined.ensures.report c.write_joined.ensures.ending c.write_joined.ensures.usage c.write_joined.ensures.failed)

pub returns-in-Err : goal.returns-in-Err
returns-in-Err g c =
    let name : c.as_str.result.now ≡ name_at c.args.files.now c.in-Err.part.number =
    c.as_str.ensures ∙ get_or_read c.args.files.now c.in-Err.part.number c.index-files-part.result c.in-Err.ensures.within c.index-files-part.is [] in
    join_not_read g.W.Sink.written g.W.Sink.faults g.W.Sink.sure c.args.out.now c.print_part_fault.new.out _ _ _ c.args.base.now c.args.report c.args.files.now c.in-Err.part
    c.print_part_fault.result c.in-Err.ensures.within c.in-Err.ensures.failed
    (subst (λ (n : List ℕ). IsToldBy g.W.Sink.written g.W.Sink.faults g.W.Sink.sure c.args.out.now c.print_part_fault.new.out (file_refusal_report c.in-Err.part.number) n c.in-Err.part.fault c.print_part_fault.result)
    name c.print_part_fault.ensures)
    c.in-Err.ensures.err c.in-Err.ensures.before c.in-Err.ensures.missing
