use Rattle.std.proofs.Common.{◌≡◌, length, refl, sym, subst}
use Rattle.boundary_orders.specs.Dossiers.{Findings, AreFew, findings_of}
use Rattle.report_base.specs.Reports.{Writes}
use Rattle.report_base.proofs.Limits.{few_written}
use Rattle.crm_type_check.specs.Relations.{faults_of}
use Rattle.record_reports.specs.RecordReports.{dossier_of}
use Rattle.record_reports.proofs.reports.report_orders.Goals as goal

pub tell_dossier-requires : goal.tell_dossier-requires
tell_dossier-requires g c = subst (λ (f : Findings). f.orders.extents ≡ length f.extents) (sym c.in-Ok.ensures.ok.dossier) refl

pub returns-in-Ok : goal.returns-in-Ok
returns-in-Ok g c =
    few_written g.W.Sink.written g.W.Sink.faults g.W.Sink.sure _ _ _ _ _ (subst AreFew c.in-Ok.ensures.ok.dossier c.in-Ok.ensures.ok.few)
    (subst (λ (f : Findings). Writes g.W.Sink.written g.W.Sink.faults g.W.Sink.sure c.args.out.now c.tell_dossier.new.out (dossier_of c.args.names.now f) c.tell_dossier.result)
    c.in-Ok.ensures.ok.dossier c.tell_dossier.ensures)

pub returns-in-Err : goal.returns-in-Err
returns-in-Err g c =
    let found = findings_of c.args.names.now c.args.pool.now.pairs (faults_of c.args.names.now c.args.pool.now.pairs) in
    c.tell_passed.ensures found (dossier_of c.args.names.now found) c.in-Err.ensures.err
