use mir.Syntax.{w128}
use mir.Val.{SFits}
use Rattle.std.proofs.Common.{ℤ, subst, rules}
use Rattle.std.proofs.lemmas.Int.{to_z-of_z}
use Rattle.report_base.specs.Reports.{Writes}
use Rattle.dating_reports.specs.When.{at_report}
use Rattle.dating_reports.proofs.under_way.tell_at.Goals as goal

pub returns : goal.returns
returns g c =
    let fit : SFits w128 c.args.t = search rules in
    subst (λ (z : ℤ). Writes g.W.Sink.written g.W.Sink.faults g.W.Sink.sure c.args.out.now c.tell_moment.new.out (at_report c.args.names.now c.args.dossier.now z) c.tell_moment.result)
    (to_z-of_z w128 c.args.t fit) c.tell_moment.ensures
