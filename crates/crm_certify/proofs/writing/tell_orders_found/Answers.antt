use Rattle.std.proofs.Common.{subst}
use Rattle.order_analysis.specs.Subjects.{Subject}
use Rattle.report_base.specs.Reports.{Writes}
use Rattle.crm_certify.specs.Certificates.{orders_report}
use Rattle.crm_certify.proofs.writing.tell_orders_found.Goals as goal

pub returns : goal.returns
returns g c =
    subst (λ (s : Subject). Writes g.W.Sink.written g.W.Sink.faults g.W.Sink.sure c.args.out.now c.tell_orders.new.out (orders_report s.set s.periods) c.tell_orders.result)
    c.in_ok-analysis.ensures.subject c.tell_orders.ensures
