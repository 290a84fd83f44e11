use Rattle.std.proofs.lemmas.Result.{err_from_is_err_and}
use Rattle.crm_outside.proofs.PrintedLines.{no_line, next_line, broken_line}
use Rattle.conflict_reports.specs.Texts.{tangle_line}
use Rattle.conflict_reports.proofs.Items.{stands_at}
use Rattle.conflict_reports.proofs.printing.print_tangle_lines.Goals as goal

pub loop-k-init : goal.loop-k-init
loop-k-init g c = no_line tangle_line c.args.tangles.now g.W.Sink.written g.W.Sink.faults g.W.Sink.sure c.args.out.now

pub returns-in_err-print_tangle : goal.returns-in_err-print_tangle
returns-in_err-print_tangle g c =
    let p = err_from_is_err_and c.from_residual.result c.from_residual.ensures.1 in
    let here = stands_at c.args.tangles.now c.loop-k.k c.index-tangles-k.result c.loop-k-test.true c.index-tangles-k.is in rw (p.1, p.2) (record {
      ok = tt;
      err = broken_line tangle_line c.args.tangles.now g.W.Sink.written g.W.Sink.faults g.W.Sink.sure c.loop-k.k c.index-tangles-k.result here _ _ _ _ c.loop-k.invariant c.in_err-print_tangle.ensures.err;
    })

pub loop-k-preserved : goal.loop-k-preserved
loop-k-preserved g c =
    let here = stands_at c.args.tangles.now c.loop-k.k c.index-tangles-k.result c.loop-k-test.true c.index-tangles-k.is in
    next_line tangle_line c.args.tangles.now g.W.Sink.written g.W.Sink.faults g.W.Sink.sure c.loop-k.k c.index-tangles-k.result here _ _ _ c.loop-k.invariant c.in_ok-print_tangle.ensures.ok
