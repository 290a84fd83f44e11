use Rattle.std.proofs.Common.{arith}
use Rattle.std.proofs.lemmas.Result.{err_from_is_err_and}
use Rattle.crm_outside.proofs.Lists.{within}
use Rattle.crm_outside.proofs.PrintedLines.{no_line, next_line, broken_line}
use Rattle.report_base.specs.Texts.{extent_line}
use Rattle.report_base.proofs.printing.print_extent_lines.Goals as goal

pub loop-k-init : goal.loop-k-init
loop-k-init g c = no_line (extent_line c.args.names.now) c.args.dossier.now.extents g.W.Sink.written g.W.Sink.faults g.W.Sink.sure c.args.out.now

pub unreachable-requires : goal.unreachable-requires
unreachable-requires g c = within c.args.dossier.now.extents c.loop-k.k (omega (arith, rw c.orders.ensures at c.extents-k-end.ensures, c.requires)) c.in_default.ensures

pub returns-in_err-print_extent : goal.returns-in_err-print_extent
returns-in_err-print_extent g c =
    let p = err_from_is_err_and c.from_residual.result c.from_residual.ensures.1 in rw (p.1, p.2) (record {
      ok = tt;
      err = broken_line (extent_line c.args.names.now) c.args.dossier.now.extents g.W.Sink.written g.W.Sink.faults g.W.Sink.sure c.loop-k.k (c.in-Some.row.node, c.in-Some.row.period) c.in-Some.ensures _ _ _ _ c.loop-k.invariant c.in_err-print_extent.ensures.err;
    })

pub loop-k-preserved : goal.loop-k-preserved
loop-k-preserved g c =
    next_line (extent_line c.args.names.now) c.args.dossier.now.extents g.W.Sink.written g.W.Sink.faults g.W.Sink.sure c.loop-k.k (c.in-Some.row.node, c.in-Some.row.period) c.in-Some.ensures _ _ _ c.loop-k.invariant c.in_ok-print_extent.ensures.ok
