use Rattle.std.proofs.Common.{List, ℕ, sym, subst, ◌∙◌}
use Rattle.std.proofs.lemmas.Result.{err_from_is_err_and}
use Rattle.crm_outside.specs.Printing.{Prints}
use Rattle.crm_outside.proofs.PrintedTexts.{broken_front, prints_then}
use Rattle.order_core.specs.Sets.{AreExtents}
use Rattle.allen_reports.specs.Relations.{rows_text}
use Rattle.allen_reports.proofs.tables.print_consistent.Goals as goal

pub returns-in_err-print_text : goal.returns-in_err-print_text
returns-in_err-print_text g c =
    let p = err_from_is_err_and c.from_residual.result c.from_residual.ensures.1 in
    rw (p.1, p.2) (record { ok = tt; err = broken_front g.W.Sink.written g.W.Sink.faults g.W.Sink.sure _ _ _ _ _ c.in_err-print_text.ensures.prints.err })

pub print_rows-requires : goal.print_rows-requires
print_rows-requires g c = subst (λ (ps : List ℕ). AreExtents c.args.analysis.now.set.extents ps) (sym (c.as_slice.ensures ∙ c.periods.ensures.periods)) c.periods.ensures.within

pub returns : goal.returns
returns g c =
    prints_then g.W.Sink.written g.W.Sink.faults g.W.Sink.sure _ _ _ _ _ _ c.in_ok-print_text.ensures.prints.ok
    (subst (λ (ps : List ℕ). Prints g.W.Sink.written g.W.Sink.faults g.W.Sink.sure c.print_text.new.out c.print_rows.new.out (rows_text c.args.analysis.now.set.list ps) c.print_rows.result)
    (c.as_slice.ensures ∙ c.periods.ensures.periods) c.print_rows.ensures)
