use Rattle.std.proofs.Common.{subst}
use Rattle.rdf_terms.specs.declared.triples.Records.{Records}
use Rattle.report_base.specs.Reports.{Writes}
use Rattle.crm_matrix.specs.MatrixTexts.{matrix_report}
use Rattle.crm_core.proofs.writing.write_matrix.Goals as goal

pub returns : goal.returns
returns g c =
    subst (λ (r : Records). Writes g.W.Sink.written g.W.Sink.faults g.W.Sink.sure c.args.out.now c.report_matrix.new.out (matrix_report r) c.report_matrix.result) c.records.ensures c.report_matrix.ensures
