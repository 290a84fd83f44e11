use Rattle.std.proofs.Common.{◌≡◌, length, refl, sym, subst}
use Rattle.crm_type_check.specs.Relations.{faults_of}
use Rattle.boundary_orders.specs.Dossiers.{Findings, AreFew, findings_of}
use Rattle.report_base.specs.Reports.{Writes}
use Rattle.report_base.proofs.Limits.{few_written}
use Rattle.inference_reports.specs.Explained.{periods_report}
use Rattle.inference_reports.proofs.explaining.report_explain.Goals as goal

pub tell_words-requires : goal.tell_words-requires
tell_words-requires g c = subst (λ (f : Findings). f.orders.extents ≡ length f.extents) (sym c.in-Ok.ensures.ok.dossier) refl

pub returns-in-Ok : goal.returns-in-Ok
returns-in-Ok g c =
    few_written g.W.Sink.written g.W.Sink.faults g.W.Sink.sure _ _ _ _ _ (subst AreFew c.in-Ok.ensures.ok.dossier c.in-Ok.ensures.ok.few)
    (subst (λ (f : Findings). Writes g.W.Sink.written g.W.Sink.faults g.W.Sink.sure c.args.out.now c.tell_words.new.out (periods_report c.args.names.now f c.args.a.now c.args.p c.args.b.now) c.tell_words.result)
    c.in-Ok.ensures.ok.dossier c.tell_words.ensures)

pub returns-in-Err : goal.returns-in-Err
returns-in-Err g c =
    let found = findings_of c.args.names.now c.args.pool.now.pairs (faults_of c.args.names.now c.args.pool.now.pairs) in
    c.tell_passed.ensures found (periods_report c.args.names.now found c.args.a.now c.args.p c.args.b.now) c.in-Err.ensures.err
