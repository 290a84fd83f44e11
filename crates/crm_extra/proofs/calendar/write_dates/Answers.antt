use Rattle.std.proofs.Common.{subst}
use Rattle.rdf_terms.specs.declared.triples.Records.{Records}
use Rattle.report_base.specs.Reports.{Writes}
use Rattle.calendar_reports.specs.Dates.{dates_report}
use Rattle.crm_extra.proofs.calendar.write_dates.Goals as goal

pub returns : goal.returns
returns g c =
    subst (λ (r : Records). Writes g.W.Sink.written g.W.Sink.faults g.W.Sink.sure c.args.out.now c.report_dates.new.out (dates_report r) c.report_dates.result) c.records.ensures c.report_dates.ensures
