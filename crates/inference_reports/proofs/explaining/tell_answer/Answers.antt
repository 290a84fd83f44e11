use Rattle.std.proofs.Common.{◌<◌, sym, subst}
use Rattle.order_analysis.specs.Subjects.{Subject}
use Rattle.report_base.specs.Reports.{Writes}
use Rattle.inference_reports.specs.Explained.{answer_report}
use Rattle.inference_reports.proofs.explaining.tell_answer.Goals as goal

pub tell_explained-requires-clause-left : goal.tell_explained-requires-clause-left
tell_explained-requires-clause-left g c = subst (λ (s : Subject). c.args.question.left.number < s.set.extents) (sym c.in_ok-analysis.ensures.subject) c.requires.left

pub tell_explained-requires-clause-right : goal.tell_explained-requires-clause-right
tell_explained-requires-clause-right g c = subst (λ (s : Subject). c.args.question.right.number < s.set.extents) (sym c.in_ok-analysis.ensures.subject) c.requires.right

pub returns : goal.returns
returns g c =
    subst (λ (s : Subject). Writes g.W.Sink.written g.W.Sink.faults g.W.Sink.sure c.args.out.now c.tell_explained.new.out
    (answer_report c.args.names.now s.set c.args.question.left c.args.question.primitive c.args.question.right) c.tell_explained.result) c.in_ok-analysis.ensures.subject c.tell_explained.ensures
