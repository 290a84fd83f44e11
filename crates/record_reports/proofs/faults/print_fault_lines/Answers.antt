use Rattle.std.proofs.Common.{arith}
use Rattle.std.proofs.lemmas.Result.{err_from_is_err_and}
use Rattle.crm_outside.proofs.Lists.{within}
use Rattle.crm_outside.proofs.PrintedLines.{no_line, next_line, broken_line}
use Rattle.report_base.specs.Texts.{fault_line}
use Rattle.record_reports.proofs.faults.print_fault_lines.Goals as goal

pub loop-k-init : goal.loop-k-init
loop-k-init g c = no_line (λ _ f. fault_line f) c.args.faults.now g.W.Sink.written g.W.Sink.faults g.W.Sink.sure c.args.out.now

pub unreachable-requires : goal.unreachable-requires
unreachable-requires g c = within c.args.faults.now c.loop-k.k (omega (arith, c.len-k-end.ensures)) c.in_default.ensures

pub returns-in_err-print_fault : goal.returns-in_err-print_fault
returns-in_err-print_fault g c =
    let p = err_from_is_err_and c.from_residual.result c.from_residual.ensures.1 in rw (p.1, p.2) (record {
      ok = tt;
      err = broken_line (λ _ f. fault_line f) c.args.faults.now g.W.Sink.written g.W.Sink.faults g.W.Sink.sure c.loop-k.k c.in-Some.fault.now c.in-Some.ensures _ _ _ _ c.loop-k.invariant c.in_err-print_fault.ensures.err;
    })

pub loop-k-preserved : goal.loop-k-preserved
loop-k-preserved g c =
    next_line (λ _ f. fault_line f) c.args.faults.now g.W.Sink.written g.W.Sink.faults g.W.Sink.sure c.loop-k.k c.in-Some.fault.now c.in-Some.ensures _ _ _ c.loop-k.invariant c.in_ok-print_fault.ensures.ok
