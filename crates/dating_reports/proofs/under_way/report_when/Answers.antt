use mir.Syntax.{w128}
use mir.Val.{SFits, to_z, of_z}
use Rattle.std.proofs.Common.{◌≡◌, ℤ, length, refl, sym, subst, rules}
use Rattle.std.proofs.lemmas.Int.{to_z-of_z}
use Rattle.boundary_orders.specs.Dossiers.{Findings, AreFew}
use Rattle.report_base.specs.Reports.{Writes, findings_from, within_limits}
use Rattle.report_base.proofs.Limits.{few_written}
use Rattle.dating_reports.specs.When.{at_report}
use Rattle.dating_reports.proofs.under_way.report_when.Goals as goal

pub tell_at-requires-clause-counted : goal.tell_at-requires-clause-counted
tell_at-requires-clause-counted g c = subst (λ (f : Findings). f.orders.extents ≡ length f.extents) (sym c.in-Ok.ensures.ok.dossier) refl

pub returns-in-Ok : goal.returns-in-Ok
returns-in-Ok g c =
    let fit : SFits w128 c.args.t = search rules in
    subst (λ (z : ℤ). Writes g.W.Sink.written g.W.Sink.faults g.W.Sink.sure c.args.out.now c.tell_at.new.out (within_limits (findings_from c.args.records.now) (at_report c.args.records.now.names (findings_from c.args.records.now) z)) c.tell_at.result)
    (to_z-of_z w128 c.args.t fit)
    (few_written g.W.Sink.written g.W.Sink.faults g.W.Sink.sure _ _ _ _ _ (subst AreFew c.in-Ok.ensures.ok.dossier c.in-Ok.ensures.ok.few)
    (subst (λ (f : Findings). Writes g.W.Sink.written g.W.Sink.faults g.W.Sink.sure c.args.out.now c.tell_at.new.out (at_report c.args.records.now.names f (to_z w128 (of_z w128 c.args.t))) c.tell_at.result)
    c.in-Ok.ensures.ok.dossier c.tell_at.ensures))

pub returns-in-Err : goal.returns-in-Err
returns-in-Err g c = c.tell_passed.ensures (findings_from c.args.records.now) (at_report c.args.records.now.names (findings_from c.args.records.now) c.args.t) c.in-Err.ensures.err
