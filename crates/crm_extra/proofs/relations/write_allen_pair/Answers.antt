use Rattle.std.proofs.Common.{subst}
use Rattle.rdf_terms.specs.declared.triples.Records.{Records}
use Rattle.report_base.specs.Reports.{Writes}
use Rattle.allen_reports.specs.Reports.{allen_pair_report}
use Rattle.crm_extra.proofs.relations.write_allen_pair.Goals as goal

pub returns : goal.returns
returns g c =
    subst (λ (r : Records). Writes g.W.Sink.written g.W.Sink.faults g.W.Sink.sure c.args.out.now c.report_allen_pair.new.out (allen_pair_report r c.args.a.now c.args.b.now) c.report_allen_pair.result) c.records.ensures c.report_allen_pair.ensures
