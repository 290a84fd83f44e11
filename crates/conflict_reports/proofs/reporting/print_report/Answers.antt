use Rattle.std.proofs.Common.{subst}
use Rattle.std.specs.Prelude.{Option}
use Rattle.std.proofs.lemmas.Result.{err_from_is_err_and}
use Rattle.crm_outside.specs.Printing.{Prints}
use Rattle.crm_outside.proofs.PrintedTexts.{broken_front, prints_then}
use Rattle.order_conflicts.specs.declared.conflicts.Conflicts.{Conflicts}
use Rattle.conflict_reports.specs.Texts.{outcome_text}
use Rattle.conflict_reports.proofs.reporting.print_report.Goals as goal

pub returns-in_err-print_dossier : goal.returns-in_err-print_dossier
returns-in_err-print_dossier g c =
    let p = err_from_is_err_and c.from_residual.result c.from_residual.ensures.1 in
    rw (p.1, p.2) (record { ok = tt; err = broken_front g.W.Sink.written g.W.Sink.faults g.W.Sink.sure _ _ _ _ _ c.in_err-print_dossier.ensures.err })

pub returns : goal.returns
returns g c =
    let told = subst (λ (o : Option Conflicts). Prints g.W.Sink.written g.W.Sink.faults g.W.Sink.sure c.print_dossier.new.out c.print_outcome.new.out (outcome_text o) c.print_outcome.result) c.requires.outcome c.print_outcome.ensures in
    prints_then g.W.Sink.written g.W.Sink.faults g.W.Sink.sure _ _ _ _ _ _ c.in_ok-print_dossier.ensures.ok told
