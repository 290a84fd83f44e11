use Rattle.crm_certify.proofs.Limited.{orders_written}
use Rattle.report_base.specs.Reports.{findings_from}
use Rattle.crm_certify.specs.Certificates.{orders_report}
use Rattle.crm_certify.proofs.writing.tell_orders_of.Goals as goal

pub returns-in-Ok : goal.returns-in-Ok
returns-in-Ok g c =
    orders_written g.W.Sink.written g.W.Sink.faults g.W.Sink.sure _ _ c.args.records.now c.in-Ok.survey.dossier
    c.tell_orders_found.result c.in-Ok.ensures.ok.dossier c.in-Ok.ensures.ok.few c.tell_orders_found.ensures

pub returns-in-Err : goal.returns-in-Err
returns-in-Err g c = c.tell_passed.ensures (findings_from c.args.records.now) (orders_report (findings_from c.args.records.now).orders (findings_from c.args.records.now).periods) c.in-Err.ensures.err
