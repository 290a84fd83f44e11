use Rattle.std.proofs.Common.{subst}
use Rattle.std.proofs.lemmas.Result.{err_from_is_err_and}
use Rattle.crm_outside.specs.Printing.{Prints}
use Rattle.crm_outside.proofs.PrintedTexts.{broken_front, prints_then}
use Rattle.order_analysis.specs.Subjects.{Subject, cycle_of}
use Rattle.allen_reports.specs.Reports.{text_by, consistent_text}
use Rattle.allen_reports.proofs.tables.print_relations.Goals as goal

pub returns-in_err-print_extents : goal.returns-in_err-print_extents
returns-in_err-print_extents g c =
    let p = err_from_is_err_and c.from_residual.result c.from_residual.ensures.1 in
    rw (p.1, p.2) (record { ok = tt; err = broken_front g.W.Sink.written g.W.Sink.faults g.W.Sink.sure _ _ _ _ _ c.in_err-print_extents.ensures.err })

pub returns : goal.returns
returns g c =
    prints_then g.W.Sink.written g.W.Sink.faults g.W.Sink.sure _ _ _ _ _ _ c.in_ok-print_extents.ensures.ok
    (subst (λ (s : Subject). Prints g.W.Sink.written g.W.Sink.faults g.W.Sink.sure c.print_extents.new.out c.print_table.new.out (text_by (cycle_of s.set) (consistent_text s.set s.periods)) c.print_table.result)
    c.requires.subject c.print_table.ensures)
