use Rattle.std.proofs.Common.{subst}
use Rattle.boundary_orders.specs.Dossiers.{Findings, AreFew}
use Rattle.report_base.specs.Reports.{Writes, findings_from}
use Rattle.report_base.proofs.Limits.{few_written}
use Rattle.calendar_reports.specs.Dates.{calendar_report}
use Rattle.calendar_reports.proofs.report.report_dates.Goals as goal

pub returns-in-Ok : goal.returns-in-Ok
returns-in-Ok g c =
    few_written g.W.Sink.written g.W.Sink.faults g.W.Sink.sure _ _ _ _ _ (subst AreFew c.in-Ok.ensures.ok.dossier c.in-Ok.ensures.ok.few)
    (subst (λ (f : Findings). Writes g.W.Sink.written g.W.Sink.faults g.W.Sink.sure c.args.out.now c.tell_dates.new.out (calendar_report c.args.records.now.names f) c.tell_dates.result)
    c.in-Ok.ensures.ok.dossier c.tell_dates.ensures)

pub returns-in-Err : goal.returns-in-Err
returns-in-Err g c = c.tell_passed.ensures (findings_from c.args.records.now) (calendar_report c.args.records.now.names (findings_from c.args.records.now)) c.in-Err.ensures.err
