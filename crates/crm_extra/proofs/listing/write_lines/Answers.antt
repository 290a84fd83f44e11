use Rattle.std.proofs.Common.{subst}
use Rattle.rdf_terms.specs.declared.triples.Records.{Records}
use Rattle.report_base.specs.Reports.{Writes}
use Rattle.line_reports.specs.Lines.{lines_report}
use Rattle.crm_extra.proofs.listing.write_lines.Goals as goal

pub returns : goal.returns
returns g c =
    subst (λ (r : Records). Writes g.W.Sink.written g.W.Sink.faults g.W.Sink.sure c.args.out.now c.report_lines.new.out (lines_report r c.args.bytes.now) c.report_lines.result) c.records.ensures c.report_lines.ensures
