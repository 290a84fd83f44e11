use Rattle.std.proofs.Common.{arith}
use Rattle.std.proofs.lemmas.Result.{err_from_is_err_and}
use Rattle.crm_outside.proofs.Lists.{within}
use Rattle.crm_outside.proofs.PrintedLines.{no_line, next_line, broken_line}
use Rattle.dating_reports.specs.Bounds.{bound_lines}
use Rattle.dating_reports.proofs.Each.{each_boundary}
use Rattle.dating_reports.proofs.dating.print_all_bounds.Goals as goal

pub loop-k-init : goal.loop-k-init
loop-k-init g c = no_line (λ _ p. bound_lines c.args.analysis.now.set p) c.args.points.now g.W.Sink.written g.W.Sink.faults g.W.Sink.sure c.args.out.now

pub unreachable-requires : goal.unreachable-requires
unreachable-requires g c = within c.args.points.now c.loop-k.k (omega (arith, c.len-k-end.ensures)) c.in_default.ensures

pub print_bounds-requires-clause-boundary : goal.print_bounds-requires-clause-boundary
print_bounds-requires-clause-boundary g c = each_boundary c.args.analysis.now.set.extents c.args.points.now c.requires.points c.loop-k.k c.in-Some.p.now c.in-Some.ensures

pub returns-in_err-print_bounds : goal.returns-in_err-print_bounds
returns-in_err-print_bounds g c =
    let p = err_from_is_err_and c.from_residual.result c.from_residual.ensures.1 in
    rw (p.1, p.2) (record {
      ok = tt;
      err = broken_line (λ _ q. bound_lines c.args.analysis.now.set q) c.args.points.now g.W.Sink.written g.W.Sink.faults g.W.Sink.sure c.loop-k.k c.in-Some.p.now c.in-Some.ensures _ _ _ _ c.loop-k.invariant c.in_err-print_bounds.ensures.err;
    })

pub loop-k-preserved : goal.loop-k-preserved
loop-k-preserved g c =
    next_line (λ _ q. bound_lines c.args.analysis.now.set q) c.args.points.now g.W.Sink.written g.W.Sink.faults g.W.Sink.sure c.loop-k.k c.in-Some.p.now c.in-Some.ensures _ _ _ c.loop-k.invariant c.in_ok-print_bounds.ensures.ok
