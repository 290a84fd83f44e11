use Rattle.std.proofs.Common.{ℕ, List, ◌<◌, length, arith, sym, subst}
use Rattle.std.proofs.lemmas.Result.{err_from_is_err_and}
use Rattle.crm_outside.specs.Printing.{Prints, lines_from}
use Rattle.crm_outside.proofs.PrintedTexts.{broken_front, prints_then}
use Rattle.order_core.specs.Sets.{AreExtents, Orders}
use Rattle.dating_reports.specs.When.{moment_lines}
use Rattle.dating_reports.proofs.under_way.print_periods.Goals as goal

pub print_moments-requires-clause-date : goal.print_moments-requires-clause-date
print_moments-requires-clause-date g c = subst (λ (s : Orders). c.args.moment.now.date < length s.dates) (sym c.in-Ok.ensures) c.requires.moment.dated

pub print_moments-requires-clause-periods : goal.print_moments-requires-clause-periods
print_moments-requires-clause-periods g c =
    subst (λ (s : Orders). AreExtents s.extents c.periods.result.now) (sym c.in-Ok.ensures)
    (subst (AreExtents c.args.moment.now.set.now.extents) (sym c.periods.ensures)
    (λ i d h. omega (arith, c.conditions.ensures.within i d h, c.conditions.ensures.counted, c.requires.extents)))

pub returns-in_err-print_text : goal.returns-in_err-print_text
returns-in_err-print_text g c =
    let p = err_from_is_err_and c.from_residual.result c.from_residual.ensures.1 in
    rw (p.1, p.2) (record { ok = tt; err = broken_front g.W.Sink.written g.W.Sink.faults g.W.Sink.sure _ _ _ _ _ c.in_err-print_text.ensures.prints.err })

pub returns : goal.returns
returns g c =
    let moments = subst (λ (ps : List ℕ). Prints g.W.Sink.written g.W.Sink.faults g.W.Sink.sure c.print_text.new.out c.print_moments.new.out
    (lines_from (λ _ k. moment_lines c.in-Ok.shares c.args.moment.now.date k) 0 ps) c.print_moments.result) c.periods.ensures c.print_moments.ensures in
    let told = subst (λ (s : Orders). Prints g.W.Sink.written g.W.Sink.faults g.W.Sink.sure c.print_text.new.out c.print_moments.new.out
    (lines_from (λ _ k. moment_lines s c.args.moment.now.date k) 0 c.args.dossier.now.periods) c.print_moments.result) c.in-Ok.ensures moments in
    prints_then g.W.Sink.written g.W.Sink.faults g.W.Sink.sure _ _ _ _ _ _ c.in_ok-print_text.ensures.prints.ok told
