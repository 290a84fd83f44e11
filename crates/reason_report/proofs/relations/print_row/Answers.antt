use Rattle.std.proofs.Common.{arith}
use Rattle.std.proofs.lemmas.Result.{err_from_is_err_and}
use Rattle.crm_outside.proofs.Lists.{within}
use Rattle.reason_report.specs.Reason.{pair_text}
use Rattle.reason_report.proofs.PrintedParts.{no_part, next_part, broken_part}
use Rattle.reason_report.proofs.relations.print_row.Goals as goal

pub loop-i-init : goal.loop-i-init
loop-i-init g c = no_part (pair_text c.args.analysis.now.set.list c.args.row.now.period) c.args.analysis.now.periods g.W.Sink.written g.W.Sink.faults g.W.Sink.sure c.args.out.now

pub unreachable-requires : goal.unreachable-requires
unreachable-requires g c = within c.args.analysis.now.periods c.loop-i.i (omega (arith, c.len-i-end.ensures.count)) c.in_default.ensures.period

pub returns-in_err-print_pair : goal.returns-in_err-print_pair
returns-in_err-print_pair g c =
    let p = err_from_is_err_and c.from_residual.result c.from_residual.ensures.1 in rw (p.1, p.2) (record {
      ok = tt;
      err = broken_part (pair_text c.args.analysis.now.set.list c.args.row.now.period) c.args.analysis.now.periods g.W.Sink.written g.W.Sink.faults g.W.Sink.sure
          c.loop-i.i c.in-Some.b c.in-Some.ensures.period _ _ _ _ c.loop-i.invariant c.in_err-print_pair.ensures.err;
    })

pub loop-i-preserved : goal.loop-i-preserved
loop-i-preserved g c =
    next_part (pair_text c.args.analysis.now.set.list c.args.row.now.period) c.args.analysis.now.periods g.W.Sink.written g.W.Sink.faults g.W.Sink.sure
    c.loop-i.i c.in-Some.b c.in-Some.ensures.period _ _ _ c.loop-i.invariant c.in_ok-print_pair.ensures.ok
