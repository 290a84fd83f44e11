use Rattle.std.proofs.Common.{◌≡◌, length, refl, sym, subst}
use Rattle.boundary_orders.specs.Dossiers.{Findings, AreFew}
use Rattle.report_base.specs.Reports.{Writes, findings_from}
use Rattle.report_base.proofs.Limits.{few_written}
use Rattle.allen_reports.specs.Reports.{periods_report}
use Rattle.allen_reports.proofs.asking.tell_question.Goals as goal

pub tell_words-requires-clause-few : goal.tell_words-requires-clause-few
tell_words-requires-clause-few g c = c.in-Ok.ensures.ok.few.orders

pub tell_words-requires-clause-numbers : goal.tell_words-requires-clause-numbers
tell_words-requires-clause-numbers g c = subst (λ (f : Findings). f.orders.extents ≡ length f.extents) (sym c.in-Ok.ensures.ok.dossier) refl

pub returns-in-Ok : goal.returns-in-Ok
returns-in-Ok g c =
    few_written g.W.Sink.written g.W.Sink.faults g.W.Sink.sure _ _ _ _ _ (subst AreFew c.in-Ok.ensures.ok.dossier c.in-Ok.ensures.ok.few)
    (subst (λ (f : Findings). Writes g.W.Sink.written g.W.Sink.faults g.W.Sink.sure c.args.out.now c.tell_words.new.out (periods_report c.args.records.now.names f c.args.a.now c.args.b.now) c.tell_words.result)
    c.in-Ok.ensures.ok.dossier c.tell_words.ensures)

pub returns-in-Err : goal.returns-in-Err
returns-in-Err g c = c.tell_passed.ensures (findings_from c.args.records.now) (periods_report c.args.records.now.names (findings_from c.args.records.now) c.args.a.now c.args.b.now) c.in-Err.ensures.err
