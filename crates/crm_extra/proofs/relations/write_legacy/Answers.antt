use Rattle.std.proofs.Common.{subst}
use Rattle.rdf_terms.specs.declared.triples.Records.{Records}
use Rattle.report_base.specs.Reports.{Writes}
use Rattle.allen_reports.specs.Reports.{legacy_report}
use Rattle.crm_extra.proofs.relations.write_legacy.Goals as goal

pub returns : goal.returns
returns g c =
    subst (λ (r : Records). Writes g.W.Sink.written g.W.Sink.faults g.W.Sink.sure c.args.out.now c.report_legacy.new.out (legacy_report r) c.report_legacy.result) c.records.ensures c.report_legacy.ensures
