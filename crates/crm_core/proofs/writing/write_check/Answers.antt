use Rattle.std.proofs.Common.{subst}
use Rattle.rdf_terms.specs.declared.triples.Records.{Records}
use Rattle.triple_pool.specs.Pool.{Numbered}
use Rattle.report_base.specs.Reports.{Report, Writes}
use Rattle.record_reports.specs.RecordReports.{check_of}
use Rattle.record_reports.proofs.Cases.{check_of_records}
use Rattle.crm_core.proofs.writing.write_check.Goals as goal

pub returns : goal.returns
returns g c =
    subst (λ (r : Report). Writes g.W.Sink.written g.W.Sink.faults g.W.Sink.sure c.args.out.now c.report_check.new.out r c.report_check.result) (check_of_records c.args.archive.now.records)
    (subst (λ (p : Numbered). Writes g.W.Sink.written g.W.Sink.faults g.W.Sink.sure c.args.out.now c.report_check.new.out (check_of c.args.archive.now.records.names p.pairs) c.report_check.result) c.in_ok-pool.ensures
    (subst (λ (r : Records). Writes g.W.Sink.written g.W.Sink.faults g.W.Sink.sure c.args.out.now c.report_check.new.out (check_of r.names c.in_ok-pool.pool.pairs) c.report_check.result) c.records.ensures c.report_check.ensures))
