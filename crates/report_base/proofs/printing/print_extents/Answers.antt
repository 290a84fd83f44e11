use Rattle.std.proofs.Common.{◌∙◌}
use Rattle.std.proofs.lemmas.Result.{err_from_is_err_and}
use Rattle.report_base.proofs.Counted.{broken_count, counted_lines}
use Rattle.report_base.proofs.printing.print_extents.Goals as goal

pub returns-in_err-print_count : goal.returns-in_err-print_count
returns-in_err-print_count g c =
    let p = err_from_is_err_and c.from_residual.result c.from_residual.ensures.1 in
    let same = rw c.orders.ensures at c.extents.ensures in rw (p.1, p.2) (record {
      ok = tt;
      err = broken_count g.W.Sink.written g.W.Sink.faults g.W.Sink.sure _ _ _ _ (same ∙ c.requires) _ _ _ c.in_err-print_count.ensures.err;
    })

pub returns : goal.returns
returns g c =
    let same = rw c.orders.ensures at c.extents.ensures in
    counted_lines g.W.Sink.written g.W.Sink.faults g.W.Sink.sure _ _ _ _ (same ∙ c.requires) _ _ _ _ c.in_ok-print_count.ensures.ok c.print_extent_lines.ensures
