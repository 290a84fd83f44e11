use Rattle.std.proofs.Common.{get_or, sym, arith}
use Rattle.std.proofs.lemmas.Option.{slice_get-get_or}
use Rattle.std.proofs.lemmas.Result.{err_from_is_err_and}
use Rattle.crm_outside.proofs.PrintedLines.{no_line, next_line, broken_line}
use Rattle.allen_reports.specs.Relations.{row_text}
use Rattle.allen_reports.proofs.tables.print_rows.Goals as goal

pub loop-a-init : goal.loop-a-init
loop-a-init g c = no_line (λ _ a. row_text c.args.analysis.now.set.list c.args.periods.now a) c.args.periods.now g.W.Sink.written g.W.Sink.faults g.W.Sink.sure c.args.out.now

pub print_row-requires-clause-left : goal.print_row-requires-clause-left
print_row-requires-clause-left g c = c.requires c.loop-a.a-index 0 (omega arith)

pub returns-in_err-print_row : goal.returns-in_err-print_row
returns-in_err-print_row g c =
    let p = err_from_is_err_and c.from_residual.result c.from_residual.ensures.1 in rw (p.1, p.2) (record {
      ok = tt;
      err = broken_line (λ _ a. row_text c.args.analysis.now.set.list c.args.periods.now a) c.args.periods.now g.W.Sink.written g.W.Sink.faults g.W.Sink.sure
          c.loop-a.a-index (get_or c.args.periods.now c.loop-a.a-index 0) (sym (slice_get-get_or c.args.periods.now c.loop-a.a-index 0 (omega arith))) _ _ _ _
          c.loop-a.invariant c.in_err-print_row.ensures.err;
    })

pub loop-a-preserved : goal.loop-a-preserved
loop-a-preserved g c =
    next_line (λ _ a. row_text c.args.analysis.now.set.list c.args.periods.now a) c.args.periods.now g.W.Sink.written g.W.Sink.faults g.W.Sink.sure
    c.loop-a.a-index (get_or c.args.periods.now c.loop-a.a-index 0) (sym (slice_get-get_or c.args.periods.now c.loop-a.a-index 0 (omega arith))) _ _ _
    c.loop-a.invariant c.in_ok-print_row.ensures.ok
