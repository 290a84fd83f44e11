use Rattle.std.proofs.lemmas.Result.{err_from_is_err_and}
use Rattle.crm_outside.proofs.PrintedTexts.{broken_front, broken_later, prints_then}
use Rattle.report_base.proofs.printing.print_dossier.Goals as goal

pub returns-in_err-print_extents : goal.returns-in_err-print_extents
returns-in_err-print_extents g c =
    let p = err_from_is_err_and c.from_residual.result c.from_residual.ensures.1 in rw (p.1, p.2) (record {
      ok = tt;
      err = broken_front g.W.Sink.written g.W.Sink.faults g.W.Sink.sure _ _ _ _ _ c.in_err-print_extents.ensures.err;
    })

pub returns-in_err-print_dates : goal.returns-in_err-print_dates
returns-in_err-print_dates g c =
    let p = err_from_is_err_and c.from_residual-in_err-print_dates.result c.from_residual-in_err-print_dates.ensures.1 in
    let same = rw c.orders.ensures at c.dates.ensures in rw (p.1, p.2, ← same) (record {
      ok = tt;
      err = broken_later g.W.Sink.written g.W.Sink.faults g.W.Sink.sure _ _ _ _ _ _ c.in_ok-print_extents.ensures.ok
          (broken_front g.W.Sink.written g.W.Sink.faults g.W.Sink.sure _ _ _ _ _ c.in_err-print_dates.ensures.err);
    })

pub returns : goal.returns
returns g c =
    let dates = rw c.orders.ensures at c.dates.ensures in
    let orders = rw c.orders-2.ensures at c.orders-3.ensures in
    rw (← dates, ← orders)
    (prints_then g.W.Sink.written g.W.Sink.faults g.W.Sink.sure _ _ _ _ _ _ c.in_ok-print_extents.ensures.ok
    (prints_then g.W.Sink.written g.W.Sink.faults g.W.Sink.sure _ _ _ _ _ _ c.in_ok-print_dates.ensures.ok c.print_orders.ensures))
