use Rattle.std.proofs.Common.{subst}
use Rattle.std.proofs.lemmas.Result.{err_from_is_err_and}
use Rattle.crm_outside.specs.Printing.{Prints}
use Rattle.crm_outside.proofs.PrintedTexts.{broken_front, broken_later, prints_then}
use Rattle.order_analysis.specs.Subjects.{Subject}
use Rattle.crm_matrix.specs.MatrixTexts.{cells_or_cycle}
use Rattle.crm_matrix.proofs.matrix_report.print_found.Goals as goal

pub returns-in_err-print_extents-clause-prints : goal.returns-in_err-print_extents-clause-prints
returns-in_err-print_extents-clause-prints g c =
    let p = err_from_is_err_and c.from_residual.result c.from_residual.ensures.1 in rw (p.1, p.2) (record {
      ok = tt;
      err = broken_front g.W.Sink.written g.W.Sink.faults g.W.Sink.sure _ _ _ _ _ c.in_err-print_extents.ensures.err;
    })

pub returns-in_err-print_units-clause-prints : goal.returns-in_err-print_units-clause-prints
returns-in_err-print_units-clause-prints g c =
    let p = err_from_is_err_and c.from_residual-in_err-print_units.result c.from_residual-in_err-print_units.ensures.1 in rw (p.1, p.2) (record {
      ok = tt;
      err = broken_later g.W.Sink.written g.W.Sink.faults g.W.Sink.sure _ _ _ _ _ _ c.in_ok-print_extents.ensures.ok
          (broken_front g.W.Sink.written g.W.Sink.faults g.W.Sink.sure _ _ _ _ _ c.in_err-print_units.ensures.err);
    })

pub returns-clause-prints : goal.returns-clause-prints
returns-clause-prints g c =
    let cells = subst (λ (s : Subject). Prints g.W.Sink.written g.W.Sink.faults g.W.Sink.sure c.print_units.new.out c.print_cells_or_cycle.new.out (cells_or_cycle s.set s.periods) c.print_cells_or_cycle.result) c.requires.analysis c.print_cells_or_cycle.ensures.prints in
    prints_then g.W.Sink.written g.W.Sink.faults g.W.Sink.sure _ _ _ _ _ _ c.in_ok-print_extents.ensures.ok
    (prints_then g.W.Sink.written g.W.Sink.faults g.W.Sink.sure _ _ _ _ _ _ c.in_ok-print_units.ensures.ok cells)
