use Rattle.std.proofs.Common.{sym}
use Rattle.std.proofs.lemmas.Result.{err_from_is_err_and}
use Rattle.crm_outside.proofs.PrintedTexts.{broken_front, broken_later}
use Rattle.calendar_reports.proofs.report.print_periods.Goals as goal

pub returns-in_err-print_count-clause-prints : goal.returns-in_err-print_count-clause-prints
returns-in_err-print_count-clause-prints g c =
    let p = err_from_is_err_and c.from_residual.result c.from_residual.ensures.1 in
    rw (p.1, p.2, sym c.len.ensures.count) (record { ok = tt; err = broken_front g.W.Sink.written g.W.Sink.faults g.W.Sink.sure _ _ _ _ _ c.in_err-print_count.ensures.err })

pub returns-in_err-print_period_lines-clause-prints : goal.returns-in_err-print_period_lines-clause-prints
returns-in_err-print_period_lines-clause-prints g c =
    let p = err_from_is_err_and c.from_residual-in_err-print_period_lines.result c.from_residual-in_err-print_period_lines.ensures.1 in
    rw (p.1, p.2, sym c.len.ensures.count) (record {
      ok = tt;
      err = broken_later g.W.Sink.written g.W.Sink.faults g.W.Sink.sure _ _ _ _ _ _ c.in_ok-print_count.ensures.ok c.in_err-print_period_lines.ensures.err;
    })
