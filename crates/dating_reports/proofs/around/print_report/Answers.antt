use Rattle.std.proofs.Common.{◌≡◌, Bool, subst}
use Rattle.std.specs.Prelude.{is_none, IfOk}
use Rattle.std.proofs.lemmas.Result.{err_from_is_err_and}
use Rattle.crm_outside.specs.Printing.{Prints}
use Rattle.crm_outside.proofs.PrintedTexts.{broken_front, prints_then}
use Rattle.order_analysis.specs.Subjects.{Subject, cycle_of}
use Rattle.dating_reports.specs.Bounds.{dating_text}
use Rattle.dating_reports.proofs.around.print_report.Goals as goal

pub returns-in_err-print_dossier-clause-prints : goal.returns-in_err-print_dossier-clause-prints
returns-in_err-print_dossier-clause-prints g c =
    let p = err_from_is_err_and c.from_residual.result c.from_residual.ensures.1 in
    rw (p.1, p.2) (record { ok = tt; err = broken_front g.W.Sink.written g.W.Sink.faults g.W.Sink.sure _ _ _ _ _ c.in_err-print_dossier.ensures.err })

pub returns-clause-prints : goal.returns-clause-prints
returns-clause-prints g c =
    let dating = subst (λ (s : Subject). Prints g.W.Sink.written g.W.Sink.faults g.W.Sink.sure c.print_dossier.new.out c.print_dating.new.out (dating_text s.set) c.print_dating.result) c.requires.subject c.print_dating.ensures.prints in
    prints_then g.W.Sink.written g.W.Sink.faults g.W.Sink.sure _ _ _ _ _ _ c.in_ok-print_dossier.ensures.ok dating

pub returns-clause-answer : goal.returns-clause-answer
returns-clause-answer g c =
    subst (λ (s : Subject). IfOk c.print_dating.result (λ (consistent : Bool). consistent ≡ is_none (cycle_of s.set))) c.requires.subject c.print_dating.ensures.answer
