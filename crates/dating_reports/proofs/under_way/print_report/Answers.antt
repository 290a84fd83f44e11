use mir.Syntax.{w128}
use mir.Val.{SFits, to_z, of_z}
use Rattle.std.proofs.Common.{◌≡◌, ℤ, ◌++◌, subst, rules}
use Rattle.std.proofs.lemmas.Int.{to_z-of_z}
use Rattle.std.proofs.lemmas.Result.{err_from_is_err_and}
use Rattle.crm_outside.specs.Printing.{Broken, Prints}
use Rattle.crm_outside.proofs.PrintedTexts.{broken_front, broken_later, prints_then}
use Rattle.report_base.specs.Texts.{extents_text}
use Rattle.dating_reports.specs.When.{instant_line, at_text}
use Rattle.dating_reports.proofs.under_way.print_report.Goals as goal

pub returns-in_err-print_extents-clause-prints : goal.returns-in_err-print_extents-clause-prints
returns-in_err-print_extents-clause-prints g c =
    let p = err_from_is_err_and c.from_residual.result c.from_residual.ensures.1 in
    rw (p.1, p.2) (record { ok = tt; err = broken_front g.W.Sink.written g.W.Sink.faults g.W.Sink.sure _ _ _ _ _ c.in_err-print_extents.ensures.err })

pub returns-in_err-print_instant-clause-prints : goal.returns-in_err-print_instant-clause-prints
returns-in_err-print_instant-clause-prints g c =
    let p = err_from_is_err_and c.from_residual-in_err-print_instant.result c.from_residual-in_err-print_instant.ensures.1 in
    let fit : SFits w128 c.args.moment.now.instant = search rules in
    rw (p.1, p.2) (record {
      ok = tt;
      err = subst (λ (z : ℤ). Broken g.W.Sink.written g.W.Sink.faults g.W.Sink.sure c.args.out.now c.print_instant.new.out
          (extents_text c.args.names.now c.args.dossier.now.extents ++ (instant_line z ++ at_text c.args.dossier.now.orders c.args.dossier.now.periods c.args.moment.now.instant)) c.in_err-print_instant.field-0.0)
          (to_z-of_z w128 c.args.moment.now.instant fit)
          (broken_later g.W.Sink.written g.W.Sink.faults g.W.Sink.sure _ _ _ _ _ _ c.in_ok-print_extents.ensures.ok
          (broken_front g.W.Sink.written g.W.Sink.faults g.W.Sink.sure _ _ _ _ _ c.in_err-print_instant.ensures.err));
    })

pub returns-clause-prints : goal.returns-clause-prints
returns-clause-prints g c =
    let fit : SFits w128 c.args.moment.now.instant = search rules in
    subst (λ (z : ℤ). Prints g.W.Sink.written g.W.Sink.faults g.W.Sink.sure c.args.out.now c.print_at.new.out
    (extents_text c.args.names.now c.args.dossier.now.extents ++ (instant_line z ++ at_text c.args.dossier.now.orders c.args.dossier.now.periods c.args.moment.now.instant)) c.print_at.result)
    (to_z-of_z w128 c.args.moment.now.instant fit)
    (prints_then g.W.Sink.written g.W.Sink.faults g.W.Sink.sure _ _ _ _ _ _ c.in_ok-print_extents.ensures.ok
    (prints_then g.W.Sink.written g.W.Sink.faults g.W.Sink.sure _ _ _ _ _ _ c.in_ok-print_instant.ensures.ok c.print_at.ensures.prints))
