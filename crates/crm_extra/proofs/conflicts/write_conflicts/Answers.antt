use Rattle.std.proofs.Common.{subst}
use Rattle.rdf_terms.specs.declared.triples.Records.{Records}
use Rattle.report_base.specs.Reports.{Writes}
use Rattle.conflict_reports.specs.Texts.{conflicts_report}
use Rattle.crm_extra.proofs.conflicts.write_conflicts.Goals as goal

pub returns : goal.returns
returns g c =
    subst (λ (r : Records). Writes g.W.Sink.written g.W.Sink.faults g.W.Sink.sure c.args.out.now c.report_conflicts.new.out (conflicts_report r) c.report_conflicts.result) c.records.ensures c.report_conflicts.ensures
