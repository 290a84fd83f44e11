use Rattle.std.proofs.Common.{subst}
use Rattle.rdf_terms.specs.declared.triples.Records.{Records}
use Rattle.report_base.specs.Reports.{Writes}
use Rattle.dating_reports.specs.Bounds.{bounds_report}
use Rattle.crm_extra.proofs.dating.write_bounds.Goals as goal

pub returns : goal.returns
returns g c =
    subst (λ (r : Records). Writes g.W.Sink.written g.W.Sink.faults g.W.Sink.sure c.args.out.now c.report_bounds.new.out (bounds_report r) c.report_bounds.result) c.records.ensures c.report_bounds.ensures
