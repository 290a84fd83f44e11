use Rattle.std.proofs.lemmas.Result.{err_from_is_err_and}
use Rattle.crm_outside.proofs.PrintedTexts.{broken_front, prints_then}
use Rattle.crm_matrix.proofs.matrix_report.print_matrix.Goals as goal

pub returns-in_err-print_counted_cells : goal.returns-in_err-print_counted_cells
returns-in_err-print_counted_cells g c =
    let p = err_from_is_err_and c.from_residual.result c.from_residual.ensures.1 in rw (p.1, p.2, ← c.cells.ensures) (record {
      ok = tt;
      err = broken_front g.W.Sink.written g.W.Sink.faults g.W.Sink.sure _ _ _ _ _ c.in_err-print_counted_cells.ensures.err;
    })

pub returns : goal.returns
returns g c =
    rw (← c.cells.ensures, ← c.covers.ensures)
    (prints_then g.W.Sink.written g.W.Sink.faults g.W.Sink.sure _ _ _ _ _ _ c.in_ok-print_counted_cells.ensures.ok c.print_counted_covers.ensures)
