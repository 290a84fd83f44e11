use Rattle.std.proofs.Common.{List, subst}
use Rattle.std.proofs.lemmas.Result.{err_from_is_err_and}
use Rattle.crm_outside.specs.Printing.{Prints, lines_from}
use Rattle.order_conflicts.specs.declared.tangles.Tangle.{Tangle}
use Rattle.report_base.proofs.Counted.{broken_count, counted_lines}
use Rattle.conflict_reports.specs.Texts.{tangle_line}
use Rattle.conflict_reports.proofs.printing.print_tangles.Goals as goal

pub returns-in_err-print_count : goal.returns-in_err-print_count
returns-in_err-print_count g c =
    let p = err_from_is_err_and c.from_residual.result c.from_residual.ensures.1 in
    rw (p.1, p.2) (record { ok = tt; err = broken_count g.W.Sink.written g.W.Sink.faults g.W.Sink.sure _ _ _ _ c.len.ensures _ _ _ c.in_err-print_count.ensures.err })

pub returns : goal.returns
returns g c =
    let lines = subst (λ (xs : List Tangle). Prints g.W.Sink.written g.W.Sink.faults g.W.Sink.sure c.print_count.new.out c.print_tangle_lines.new.out (lines_from tangle_line 0 xs) c.print_tangle_lines.result) c.as_slice.ensures c.print_tangle_lines.ensures in
    counted_lines g.W.Sink.written g.W.Sink.faults g.W.Sink.sure _ _ _ _ c.len.ensures _ _ _ _ c.in_ok-print_count.ensures.ok lines
