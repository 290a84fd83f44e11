use Rattle.std.proofs.lemmas.Result.{err_from_is_err_and}
use Rattle.crm_outside.proofs.PrintedTexts.{broken_front, prints_then}
use Rattle.report_base.proofs.Counted.{broken_count, broken_rest, counted_lines, count_last}
use Rattle.record_reports.proofs.faults.print_faults.Goals as goal

pub returns-in_err-print_count : goal.returns-in_err-print_count
returns-in_err-print_count g c = λ triples same.
    let p = err_from_is_err_and c.from_residual.result c.from_residual.ensures.1 in rw (p.1, p.2) (record {
      ok = tt;
      err = broken_count g.W.Sink.written g.W.Sink.faults g.W.Sink.sure _ _ _ _ same _ _ _ c.in_err-print_count.ensures.err;
    })

pub returns-in_err-print_fault_lines : goal.returns-in_err-print_fault_lines
returns-in_err-print_fault_lines g c = λ triples same.
    let p = err_from_is_err_and c.from_residual-in_err-print_fault_lines.result c.from_residual-in_err-print_fault_lines.ensures.1 in rw (p.1, p.2) (record {
      ok = tt;
      err = broken_rest g.W.Sink.written g.W.Sink.faults g.W.Sink.sure _ _ _ _ same _ _ _ _ c.in_ok-print_count.ensures.ok
          (broken_front g.W.Sink.written g.W.Sink.faults g.W.Sink.sure _ _ _ _ _ c.in_err-print_fault_lines.ensures.err);
    })

pub returns : goal.returns
returns g c = λ triples same.
    counted_lines g.W.Sink.written g.W.Sink.faults g.W.Sink.sure _ _ _ _ same _ _ _ _ c.in_ok-print_count.ensures.ok
    (prints_then g.W.Sink.written g.W.Sink.faults g.W.Sink.sure _ _ _ _ _ _ c.in_ok-print_fault_lines.ensures.ok
    (count_last g.W.Sink.written g.W.Sink.faults g.W.Sink.sure _ _ _ c.len.ensures _ _ _ c.print_count-2.ensures))
