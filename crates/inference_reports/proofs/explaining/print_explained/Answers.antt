use Rattle.std.proofs.lemmas.Result.{err_from_is_err_and}
use Rattle.crm_outside.proofs.PrintedTexts.{broken_front, prints_then}
use Rattle.inference_reports.proofs.explaining.print_explained.Goals as goal

pub returns-in_err-print_periods-clause-prints : goal.returns-in_err-print_periods-clause-prints
returns-in_err-print_periods-clause-prints g c =
    let p = err_from_is_err_and c.from_residual.result c.from_residual.ensures.1 in
    rw (p.1, p.2) (record { ok = tt; err = broken_front g.W.Sink.written g.W.Sink.faults g.W.Sink.sure _ _ _ _ _ c.in_err-print_periods.ensures.err })

pub returns-clause-prints : goal.returns-clause-prints
returns-clause-prints g c = prints_then g.W.Sink.written g.W.Sink.faults g.W.Sink.sure _ _ _ _ _ _ c.in_ok-print_periods.ensures.ok c.print_answer.ensures.prints
