use Rattle.std.proofs.Common.{◌≡◌, length, refl, sym, subst}
use Rattle.boundary_orders.specs.Dossiers.{Findings, AreFew}
use Rattle.report_base.specs.Reports.{Writes, findings_from}
use Rattle.report_base.proofs.Limits.{few_written}
use Rattle.conflict_reports.specs.Texts.{found_report}
use Rattle.conflict_reports.proofs.reporting.report_conflicts.Goals as goal

pub tell_conflicts-requires : goal.tell_conflicts-requires
tell_conflicts-requires g c = subst (λ (f : Findings). f.orders.extents ≡ length f.extents) (sym c.in-Ok.ensures.ok.dossier) refl

pub returns-in-Ok : goal.returns-in-Ok
returns-in-Ok g c =
    few_written g.W.Sink.written g.W.Sink.faults g.W.Sink.sure _ _ _ _ _ (subst AreFew c.in-Ok.ensures.ok.dossier c.in-Ok.ensures.ok.few)
    (subst (λ (f : Findings). Writes g.W.Sink.written g.W.Sink.faults g.W.Sink.sure c.args.out.now c.tell_conflicts.new.out (found_report c.args.records.now.names f) c.tell_conflicts.result)
    c.in-Ok.ensures.ok.dossier c.tell_conflicts.ensures)

pub returns-in-Err : goal.returns-in-Err
returns-in-Err g c = c.tell_passed.ensures (findings_from c.args.records.now) (found_report c.args.records.now.names (findings_from c.args.records.now)) c.in-Err.ensures.err
