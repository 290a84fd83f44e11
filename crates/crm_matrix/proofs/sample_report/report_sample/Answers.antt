use Rattle.std.proofs.Common.{List, subst}
use Rattle.crm_type_check.specs.declared.Fault.{Fault}
use Rattle.boundary_orders.specs.Dossiers.{Findings, AreFew}
use Rattle.report_base.specs.Reports.{Writes, faults_in, findings_from}
use Rattle.report_base.proofs.Limits.{few_written}
use Rattle.crm_matrix.specs.Samples.{counts_report, sample_found}
use Rattle.crm_matrix.proofs.sample_report.report_sample.Goals as goal

pub returns-in-Ok : goal.returns-in-Ok
returns-in-Ok g c =
    few_written g.W.Sink.written g.W.Sink.faults g.W.Sink.sure _ _ _ _ _ (subst AreFew c.in-Ok.ensures.ok.dossier c.in-Ok.ensures.ok.few)
    (subst (λ (f : Findings). Writes g.W.Sink.written g.W.Sink.faults g.W.Sink.sure c.args.out.now c.tell_found.new.out
    (counts_report c.args.n c.args.records.now.triples (faults_in c.args.records.now) f) c.tell_found.result)
    c.in-Ok.ensures.ok.dossier
    (subst (λ (fs : List Fault). Writes g.W.Sink.written g.W.Sink.faults g.W.Sink.sure c.args.out.now c.tell_found.new.out
    (counts_report c.args.n c.args.records.now.triples fs c.in-Ok.survey.dossier) c.tell_found.result)
    c.in-Ok.ensures.ok.faults c.tell_found.ensures))

pub returns-in-Err : goal.returns-in-Err
returns-in-Err g c = c.tell_passed.ensures (findings_from c.args.records.now) (sample_found c.args.n c.args.records.now) c.in-Err.ensures.err
