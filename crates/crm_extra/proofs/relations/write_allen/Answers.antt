use Rattle.std.proofs.Common.{subst}
use Rattle.rdf_terms.specs.declared.triples.Records.{Records}
use Rattle.report_base.specs.Reports.{Writes}
use Rattle.allen_reports.specs.Reports.{allen_report}
use Rattle.crm_extra.proofs.relations.write_allen.Goals as goal

pub returns : goal.returns
returns g c =
    subst (λ (r : Records). Writes g.W.Sink.written g.W.Sink.faults g.W.Sink.sure c.args.out.now c.report_allen.new.out (allen_report r) c.report_allen.result) c.records.ensures c.report_allen.ensures
