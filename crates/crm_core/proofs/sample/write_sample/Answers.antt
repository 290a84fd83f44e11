use Rattle.std.proofs.Common.{sym, subst, None, true}
use Rattle.rdf_terms.specs.declared.triples.Records.{Records}
use Rattle.report_base.specs.Reports.{Report, Writes}
use Rattle.crm_matrix.specs.Samples.{sample_file, records_report}
use Rattle.crm_core.specs.Files.{file_answer}
use Rattle.crm_core.proofs.SampleFiles.{read_report, refused_report}
use Rattle.crm_core.proofs.sample.write_sample.Goals as goal

pub returns-in-Ok : goal.returns-in-Ok
returns-in-Ok g c =
    let is = read_report c.args.n c.in-Ok.archive.records (file_answer true None (sample_file c.args.n)) c.in-Ok.ensures.ok in
    subst (λ (r : Report). Writes g.W.Sink.written g.W.Sink.faults g.W.Sink.sure c.args.out.now c.report_sample.new.out r c.report_sample.result) (sym is)
    (subst (λ (r : Records). Writes g.W.Sink.written g.W.Sink.faults g.W.Sink.sure c.args.out.now c.report_sample.new.out (records_report c.args.n r) c.report_sample.result) c.records.ensures
    c.report_sample.ensures)

pub returns-in-Err-Refused : goal.returns-in-Err-Refused
returns-in-Err-Refused g c =
    let told = rw c.in-Err-Refused.field-0-is at c.in-Err-Refused.ensures.refused in
    let is = refused_report c.args.n c.in-Err-Refused.refusal (file_answer true None (sample_file c.args.n)) told in
    subst (λ (r : Report). Writes g.W.Sink.written g.W.Sink.faults g.W.Sink.sure c.args.out.now c.report_refusal.new.out r c.report_refusal.result) (sym is) c.report_refusal.ensures
