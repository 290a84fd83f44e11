use Rattle.std.proofs.lemmas.Result.{err_from_is_err_and}
use Rattle.crm_outside.proofs.PrintedTexts.{broken_front, broken_later, prints_then}
use Rattle.conflict_reports.proofs.printing.print_conflicts.Goals as goal

pub returns-in_err-print_text : goal.returns-in_err-print_text
returns-in_err-print_text g c =
    let p = err_from_is_err_and c.from_residual.result c.from_residual.ensures.1 in rw (p.1, p.2) (record {
      ok = tt;
      err = broken_front g.W.Sink.written g.W.Sink.faults g.W.Sink.sure _ _ _ _ _ c.in_err-print_text.ensures.prints.err;
    })

pub returns-in_err-print_tangles : goal.returns-in_err-print_tangles
returns-in_err-print_tangles g c =
    let p = err_from_is_err_and c.from_residual-in_err-print_tangles.result c.from_residual-in_err-print_tangles.ensures.1 in rw (p.1, p.2) (record {
      ok = tt;
      err = broken_later g.W.Sink.written g.W.Sink.faults g.W.Sink.sure _ _ _ _ _ _ c.in_ok-print_text.ensures.prints.ok
          (broken_front g.W.Sink.written g.W.Sink.faults g.W.Sink.sure _ _ _ _ _ c.in_err-print_tangles.ensures.err);
    })

pub returns : goal.returns
returns g c =
    prints_then g.W.Sink.written g.W.Sink.faults g.W.Sink.sure _ _ _ _ _ _ c.in_ok-print_text.ensures.prints.ok
    (prints_then g.W.Sink.written g.W.Sink.faults g.W.Sink.sure _ _ _ _ _ _ c.in_ok-print_tangles.ensures.ok c.print_suspects.ensures)
