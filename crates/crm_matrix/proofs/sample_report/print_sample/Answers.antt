use Rattle.std.proofs.Common.{subst}
use Rattle.std.proofs.lemmas.Result.{err_from_is_err_and}
use Rattle.crm_outside.specs.Printing.{Printed}
use Rattle.crm_outside.proofs.PrintedTexts.{broken_front, prints_then}
use Rattle.order_core.specs.Sets.{Orders}
use Rattle.crm_matrix.specs.Samples.{counts_text}
use Rattle.crm_matrix.proofs.sample_report.print_sample.Goals as goal

pub returns-in_err-print_counts-clause-prints : goal.returns-in_err-print_counts-clause-prints
returns-in_err-print_counts-clause-prints g c =
    let counts = rw c.set.ensures at c.in_err-print_counts.ensures.err in
    let p = err_from_is_err_and c.from_residual.result c.from_residual.ensures.1 in rw (p.1, p.2) (record {
      ok = tt;
      err = broken_front g.W.Sink.written g.W.Sink.faults g.W.Sink.sure _ _ _ _ _ counts;
    })

pub returns-clause-prints : goal.returns-clause-prints
returns-clause-prints g c =
    let counts = subst (λ (s : Orders). Printed g.W.Sink.written g.W.Sink.faults g.W.Sink.sure c.args.out.now c.print_counts.new.out (counts_text c.args.n c.args.triples.now c.args.faults.now s)) c.set.ensures c.in_ok-print_counts.ensures.ok in
    prints_then g.W.Sink.written g.W.Sink.faults g.W.Sink.sure _ _ _ _ _ _ counts c.print_counts_or_cycle.ensures.prints
