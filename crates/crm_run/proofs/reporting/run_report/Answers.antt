use Rattle.std.proofs.Common.{Err, ap}
use Rattle.crm_core.specs.declared.faults.ArchiveFault.{ArchiveFault}
use Rattle.crm_run.proofs.Runs.{report_not_read, report_run}
use Rattle.crm_run.proofs.reporting.run_report.Goals as goal

pub returns-in-Ok : goal.returns-in-Ok
returns-in-Ok g c =
    rw c.ended.ensures
    (report_run g.W.Sink.written g.W.Sink.faults g.W.Sink.sure c.args.out.now c.write_report.new.out _ _ _ c.args.base.now c.args.file.now c.in-Ok.archive.records
    (rw c.text_in.ensures at c.in-Ok.ensures.answer) c.args.query.now c.write_report.result c.write_report.ensures.report c.write_report.ensures.ending
    c.write_report.ensures.usage c.write_report.ensures.failed)

pub returns-in-Err : goal.returns-in-Err
returns-in-Err g c =
    report_not_read g.W.Sink.written g.W.Sink.faults g.W.Sink.sure c.args.out.now c.print_archive_fault.new.out _ _ _ c.args.base.now c.args.file.now c.in-Err.fault
    c.print_archive_fault.result (rw c.text_in.ensures at c.in-Err.ensures.answer) (λ e. c.in-Err.ensures.failed (ap (λ (x : ArchiveFault). Err x) e))
    (λ honest e. (c.in-Err.ensures.missing honest).0 (ap (λ (x : ArchiveFault). Err x) e)) c.print_archive_fault.ensures c.args.query.now
