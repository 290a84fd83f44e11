use Rattle.std.proofs.Common.{subst}
use Rattle.boundary_orders.specs.Dossiers.{IsPassed}
use Rattle.report_base.specs.Reports.{within_limits}
use Rattle.report_base.proofs.Limits.{extents_passed, dates_passed, orders_passed, starved_written}
use Rattle.report_base.proofs.telling.tell_passed.Goals as goal

pub returns-in-Extents : goal.returns-in-Extents
returns-in-Extents g c = λ found r is.
    let h = subst (IsPassed found) c.in-Extents.is is in extents_passed g.W.Sink.written g.W.Sink.faults g.W.Sink.sure _ _ found r _ _ h.0 h.1 c.tell_count.ensures

pub returns-in-Dates : goal.returns-in-Dates
returns-in-Dates g c = λ found r is.
    let h = subst (IsPassed found) c.in-Dates.is is in dates_passed g.W.Sink.written g.W.Sink.faults g.W.Sink.sure _ _ found r _ _ h.0 h.1 h.2 c.tell_count-in-Dates.ensures

pub returns-in-Orders : goal.returns-in-Orders
returns-in-Orders g c = λ found r is.
    let h = subst (IsPassed found) c.in-Orders.is is in orders_passed g.W.Sink.written g.W.Sink.faults g.W.Sink.sure _ _ found r _ _ h.0 h.1 h.2 h.3 c.tell_count-in-Orders.ensures

pub returns-in-Memory : goal.returns-in-Memory
returns-in-Memory g c = λ found r is. starved_written g.W.Sink.written g.W.Sink.faults g.W.Sink.sure _ (within_limits found r)
