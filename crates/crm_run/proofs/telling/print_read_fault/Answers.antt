use Rattle.std.proofs.Common.{◌∙◌, subst, List, ℕ}
use Rattle.crm_run.specs.Outcomes.{Outcome}
use Rattle.report_base.specs.declared.status.Status.TheVariants.{ReadFault}
use Rattle.crm_run.proofs.telling.print_read_fault.Goals as goal

pub returns-in-Ok : goal.returns-in-Ok
returns-in-Ok g c =
    let text = c.as_bytes.ensures.value ∙ c.in-Ok.ensures in
    subst (λ (u : List ℕ). Outcome g.W.Sink.written g.W.Sink.faults g.W.Sink.sure c.args.out.now c.print_report.new.out (record { status = ReadFault; text = u }) c.print_report.result) text c.print_report.ensures
