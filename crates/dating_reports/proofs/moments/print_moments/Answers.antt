use Rattle.std.proofs.Common.{arith}
use Rattle.std.proofs.lemmas.Result.{err_from_is_err_and}
use Rattle.crm_outside.proofs.Lists.{within}
use Rattle.crm_outside.proofs.PrintedLines.{no_line, next_line, broken_line}
use Rattle.dating_reports.specs.When.{moment_lines}
use Rattle.dating_reports.proofs.Each.{each_extent}
use Rattle.dating_reports.proofs.moments.print_moments.Goals as goal

pub loop-i-init : goal.loop-i-init
loop-i-init g c = no_line (λ _ k. moment_lines c.args.shares.now c.args.date k) c.args.periods.now g.W.Sink.written g.W.Sink.faults g.W.Sink.sure c.args.out.now

pub unreachable-requires : goal.unreachable-requires
unreachable-requires g c = within c.args.periods.now c.loop-i.i (omega (arith, c.len-i-end.ensures)) c.in_default.ensures

pub print_moment-requires-clause-extent : goal.print_moment-requires-clause-extent
print_moment-requires-clause-extent g c = each_extent c.args.shares.now.extents c.args.periods.now c.requires.periods c.loop-i.i c.in-Some.k.now c.in-Some.ensures

pub returns-in_err-print_moment : goal.returns-in_err-print_moment
returns-in_err-print_moment g c =
    let p = err_from_is_err_and c.from_residual.result c.from_residual.ensures.1 in
    rw (p.1, p.2) (record {
      ok = tt;
      err = broken_line (λ _ k. moment_lines c.args.shares.now c.args.date k) c.args.periods.now g.W.Sink.written g.W.Sink.faults g.W.Sink.sure c.loop-i.i c.in-Some.k.now c.in-Some.ensures _ _ _ _ c.loop-i.invariant c.in_err-print_moment.ensures.err;
    })

pub loop-i-preserved : goal.loop-i-preserved
loop-i-preserved g c =
    next_line (λ _ k. moment_lines c.args.shares.now c.args.date k) c.args.periods.now g.W.Sink.written g.W.Sink.faults g.W.Sink.sure c.loop-i.i c.in-Some.k.now c.in-Some.ensures _ _ _ c.loop-i.invariant c.in_ok-print_moment.ensures.ok
