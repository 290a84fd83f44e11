use Rattle.std.proofs.Common.{List, subst}
use Rattle.std.proofs.lemmas.Result.{err_from_is_err_and}
use Rattle.crm_outside.specs.Printing.{Printed, Broken, Prints}
use Rattle.crm_outside.proofs.PrintedTexts.{broken_front, broken_later, prints_then}
use Rattle.crm_type_check.specs.declared.Fault.{Fault}
use Rattle.boundary_orders.specs.Dossiers.{Findings}
use Rattle.order_analysis.specs.Subjects.{Subject}
use Rattle.reason_report.specs.Reason.{report_text}
use Rattle.report_base.specs.Texts.{check_text, orders_text}
use Rattle.inference_reports.proofs.reasoning.print_reasons.Goals as goal

pub returns-in_err-print_check-clause-prints : goal.returns-in_err-print_check-clause-prints
returns-in_err-print_check-clause-prints g c =
    let p = err_from_is_err_and c.from_residual.result c.from_residual.ensures.1 in
    let check = subst (λ (fs : List Fault). Broken g.W.Sink.written g.W.Sink.faults g.W.Sink.sure c.args.out.now c.print_check.new.out (check_text c.args.records.now.triples fs) c.in_err-print_check.field-0.0) c.requires.survey.faults c.in_err-print_check.ensures.err in
    rw (p.1, p.2) (record { ok = tt; err = broken_front g.W.Sink.written g.W.Sink.faults g.W.Sink.sure _ _ _ _ _ check })

pub returns-in_err-print_dossier-clause-prints : goal.returns-in_err-print_dossier-clause-prints
returns-in_err-print_dossier-clause-prints g c =
    let p = err_from_is_err_and c.from_residual-in_err-print_dossier.result c.from_residual-in_err-print_dossier.ensures.1 in
    let check = subst (λ (fs : List Fault). Printed g.W.Sink.written g.W.Sink.faults g.W.Sink.sure c.args.out.now c.print_check.new.out (check_text c.args.records.now.triples fs)) c.requires.survey.faults c.in_ok-print_check.ensures.ok in
    let found = subst (λ (f : Findings). Broken g.W.Sink.written g.W.Sink.faults g.W.Sink.sure c.print_check.new.out c.print_dossier.new.out (orders_text c.args.records.now.names f) c.in_err-print_dossier.field-0.0) c.requires.survey.dossier c.in_err-print_dossier.ensures.err in
    rw (p.1, p.2) (record { ok = tt; err = broken_later g.W.Sink.written g.W.Sink.faults g.W.Sink.sure _ _ _ _ _ _ check (broken_front g.W.Sink.written g.W.Sink.faults g.W.Sink.sure _ _ _ _ _ found) })

pub returns-clause-prints : goal.returns-clause-prints
returns-clause-prints g c =
    let check = subst (λ (fs : List Fault). Printed g.W.Sink.written g.W.Sink.faults g.W.Sink.sure c.args.out.now c.print_check.new.out (check_text c.args.records.now.triples fs)) c.requires.survey.faults c.in_ok-print_check.ensures.ok in
    let found = subst (λ (f : Findings). Printed g.W.Sink.written g.W.Sink.faults g.W.Sink.sure c.print_check.new.out c.print_dossier.new.out (orders_text c.args.records.now.names f)) c.requires.survey.dossier c.in_ok-print_dossier.ensures.ok in
    let reason = subst (λ (s : Subject). Prints g.W.Sink.written g.W.Sink.faults g.W.Sink.sure c.print_dossier.new.out c.print_reason.new.out (report_text s.set s.periods) c.print_reason.result) c.requires.analysis c.print_reason.ensures.prints in
    prints_then g.W.Sink.written g.W.Sink.faults g.W.Sink.sure _ _ _ _ _ _ check (prints_then g.W.Sink.written g.W.Sink.faults g.W.Sink.sure _ _ _ _ _ _ found reason)
