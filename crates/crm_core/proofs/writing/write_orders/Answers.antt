use Rattle.std.proofs.Common.{subst}
use Rattle.rdf_terms.specs.declared.triples.Records.{Records}
use Rattle.triple_pool.specs.Pool.{Numbered}
use Rattle.report_base.specs.Reports.{Writes}
use Rattle.record_reports.specs.RecordReports.{orders_of}
use Rattle.crm_core.proofs.writing.write_orders.Goals as goal

pub returns : goal.returns
returns g c =
    subst (λ (p : Numbered). Writes g.W.Sink.written g.W.Sink.faults g.W.Sink.sure c.args.out.now c.report_orders.new.out (orders_of c.args.archive.now.records.names p.pairs) c.report_orders.result) c.in_ok-pool.ensures
    (subst (λ (r : Records). Writes g.W.Sink.written g.W.Sink.faults g.W.Sink.sure c.args.out.now c.report_orders.new.out (orders_of r.names c.in_ok-pool.pool.pairs) c.report_orders.result) c.records.ensures c.report_orders.ensures)
