use Rattle.std.proofs.Common.{◌<◌, ◌≤◌, length, sym, subst}
use Rattle.order_analysis.specs.Subjects.{Subject}
use Rattle.report_base.specs.Reports.{Writes}
use Rattle.allen_reports.specs.Reports.{pair_report}
use Rattle.allen_reports.proofs.asking.tell_answer.Goals as goal

pub tell_analysed-requires-clause-few : goal.tell_analysed-requires-clause-few
tell_analysed-requires-clause-few g c = subst (λ (s : Subject). length s.set.list ≤ 65536) (sym c.in_ok-analysis.ensures.subject) c.requires.few

pub tell_analysed-requires-clause-left : goal.tell_analysed-requires-clause-left
tell_analysed-requires-clause-left g c = subst (λ (s : Subject). c.args.question.left.number < s.set.extents) (sym c.in_ok-analysis.ensures.subject) c.requires.left

pub tell_analysed-requires-clause-right : goal.tell_analysed-requires-clause-right
tell_analysed-requires-clause-right g c = subst (λ (s : Subject). c.args.question.right.number < s.set.extents) (sym c.in_ok-analysis.ensures.subject) c.requires.right

pub returns : goal.returns
returns g c =
    subst (λ (s : Subject). Writes g.W.Sink.written g.W.Sink.faults g.W.Sink.sure c.args.out.now c.tell_analysed.new.out
    (pair_report c.args.names.now s.set c.args.question.left c.args.question.right) c.tell_analysed.result) c.in_ok-analysis.ensures.subject c.tell_analysed.ensures
