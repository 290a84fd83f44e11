use Rattle.std.proofs.Common.{arith}
use Rattle.std.proofs.lemmas.Result.{err_from_is_err_and}
use Rattle.crm_outside.proofs.Lists.{within}
use Rattle.crm_outside.proofs.PrintedLines.{no_line, next_line, broken_line}
use Rattle.calendar_reports.specs.Dates.{period_line}
use Rattle.calendar_reports.proofs.rows.print_period_lines.Goals as goal

pub loop-i-init : goal.loop-i-init
loop-i-init g c = no_line (λ _ k. period_line c.args.names.now c.args.dossier.now.extents c.args.analysis.now.set k) c.args.analysis.now.periods g.W.Sink.written g.W.Sink.faults g.W.Sink.sure c.args.out.now

pub unreachable-requires : goal.unreachable-requires
unreachable-requires g c = within c.args.analysis.now.periods c.loop-i.i (omega (arith, c.len-i-end.ensures)) c.in_default.ensures.period

pub returns-in_err-print_period : goal.returns-in_err-print_period
returns-in_err-print_period g c =
    let p = err_from_is_err_and c.from_residual.result c.from_residual.ensures.1 in
    rw (p.1, p.2) (record {
      ok = tt;
      err = broken_line (λ _ k. period_line c.args.names.now c.args.dossier.now.extents c.args.analysis.now.set k) c.args.analysis.now.periods g.W.Sink.written g.W.Sink.faults g.W.Sink.sure c.loop-i.i c.in-Some.k c.in-Some.ensures.period _ _ _ _ c.loop-i.invariant c.in_err-print_period.ensures.err;
    })

pub loop-i-preserved : goal.loop-i-preserved
loop-i-preserved g c =
    next_line (λ _ k. period_line c.args.names.now c.args.dossier.now.extents c.args.analysis.now.set k) c.args.analysis.now.periods g.W.Sink.written g.W.Sink.faults g.W.Sink.sure c.loop-i.i c.in-Some.k c.in-Some.ensures.period _ _ _ c.loop-i.invariant c.in_ok-print_period.ensures.ok
