use Rattle.std.proofs.lemmas.Result.{err_from_is_err_and}
use Rattle.crm_outside.proofs.PrintedTexts.{broken_front, prints_then}
use Rattle.allen_reports.proofs.asking.print_answer.Goals as goal

pub returns-in_err-print_periods : goal.returns-in_err-print_periods
returns-in_err-print_periods g c =
    let p = err_from_is_err_and c.from_residual.result c.from_residual.ensures.1 in
    rw (p.1, p.2) (record { ok = tt; err = broken_front g.W.Sink.written g.W.Sink.faults g.W.Sink.sure _ _ _ _ _ c.in_err-print_periods.ensures.err })

pub returns : goal.returns
returns g c = prints_then g.W.Sink.written g.W.Sink.faults g.W.Sink.sure _ _ _ _ _ _ c.in_ok-print_periods.ensures.ok c.print_pair.ensures
