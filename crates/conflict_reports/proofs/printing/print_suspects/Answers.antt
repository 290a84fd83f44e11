use Rattle.std.proofs.Common.{List, subst}
use Rattle.std.proofs.lemmas.Result.{err_from_is_err_and}
use Rattle.crm_outside.specs.Printing.{Broken, Printed, lines_from}
use Rattle.crm_outside.proofs.PrintedTexts.{broken_front, prints_then}
use Rattle.order_conflicts.specs.declared.suspects.Suspect.{Suspect}
use Rattle.report_base.proofs.Counted.{count_last}
use Rattle.conflict_reports.specs.Texts.{suspect_line}
use Rattle.conflict_reports.proofs.printing.print_suspects.Goals as goal

pub returns-in_err-print_suspect_lines : goal.returns-in_err-print_suspect_lines
returns-in_err-print_suspect_lines g c =
    let p = err_from_is_err_and c.from_residual.result c.from_residual.ensures.1 in
    let lines = subst (λ (xs : List Suspect). Broken g.W.Sink.written g.W.Sink.faults g.W.Sink.sure c.args.out.now c.print_suspect_lines.new.out (lines_from (λ _ s. suspect_line s) 0 xs) c.in_err-print_suspect_lines.field-0.0) c.as_slice.ensures c.in_err-print_suspect_lines.ensures.err in
    rw (p.1, p.2) (record { ok = tt; err = broken_front g.W.Sink.written g.W.Sink.faults g.W.Sink.sure _ _ _ _ _ lines })

pub returns : goal.returns
returns g c =
    let lines = subst (λ (xs : List Suspect). Printed g.W.Sink.written g.W.Sink.faults g.W.Sink.sure c.args.out.now c.print_suspect_lines.new.out (lines_from (λ _ s. suspect_line s) 0 xs)) c.as_slice.ensures c.in_ok-print_suspect_lines.ensures.ok in
    prints_then g.W.Sink.written g.W.Sink.faults g.W.Sink.sure _ _ _ _ _ _ lines
    (count_last g.W.Sink.written g.W.Sink.faults g.W.Sink.sure _ _ _ c.len.ensures _ _ _ c.print_count.ensures)
