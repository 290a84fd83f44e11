use mir.Syntax.{w128}
use mir.Val.{SFits}
use Rattle.std.proofs.Common.{◌≡◌, ℤ, sym, subst, rules}
use Rattle.std.proofs.lemmas.Int.{to_z-of_z}
use Rattle.std.specs.Prelude.{IfOk, IfSome}
use Rattle.report_base.specs.declared.status.Status.TheVariants.{Usage}
use Rattle.allen_reports.specs.Reports.{allen_pair_report}
use Rattle.inference_reports.specs.Explained.{explain_report}
use Rattle.dating_reports.specs.When.{when_report}
use Rattle.report_base.specs.Reports.{Writes}
use Rattle.inference_reports.proofs.Naming.{usage_of}
use Rattle.command_words.specs.declared.tasks.Query.{Query}
use Rattle.crm_run.specs.Outcomes.{NamesNoPeriod}
use Rattle.crm_run.specs.Report.{records_report}
use Rattle.crm_run.proofs.Usages.{no_usage, pair_usage}
use Rattle.crm_run.proofs.reporting.write_report.Goals as goal

pub returns-in-Explain-clause-report : goal.returns-in-Explain-clause-report
returns-in-Explain-clause-report g c =
    subst (λ (k : Query). IfSome (records_report k c.args.archive.now.records) (λ r. Writes g.W.Sink.written g.W.Sink.faults g.W.Sink.sure c.args.out.now c.write_explain.new.out r c.write_explain.result))
    (sym c.in-Explain.is) (rw (c.as_str.ensures, c.as_str-in-Explain.ensures) at c.write_explain.ensures)

pub returns-in-Explain-clause-usage : goal.returns-in-Explain-clause-usage
returns-in-Explain-clause-usage g c =
    subst (λ (k : Query). IfOk c.write_explain.result (λ s. s ≡ Usage → NamesNoPeriod k c.args.archive.now.records)) (sym c.in-Explain.is)
    (no_usage _ c.write_explain.result (explain_report c.args.archive.now.records c.in-Explain.a c.in-Explain.code c.in-Explain.b).status
    (usage_of c.args.archive.now.records c.in-Explain.a c.in-Explain.code c.in-Explain.b) (rw (c.as_str.ensures, c.as_str-in-Explain.ensures) at c.write_explain.ensures.status))

pub returns-in-AllenPair-clause-report : goal.returns-in-AllenPair-clause-report
returns-in-AllenPair-clause-report g c =
    subst (λ (k : Query). IfSome (records_report k c.args.archive.now.records) (λ r. Writes g.W.Sink.written g.W.Sink.faults g.W.Sink.sure c.args.out.now c.write_allen_pair.new.out r c.write_allen_pair.result))
    (sym c.in-AllenPair.is) (rw (c.as_str-in-AllenPair.ensures, c.as_str-in-AllenPair-2.ensures) at c.write_allen_pair.ensures)

pub returns-in-AllenPair-clause-usage : goal.returns-in-AllenPair-clause-usage
returns-in-AllenPair-clause-usage g c =
    subst (λ (k : Query). IfOk c.write_allen_pair.result (λ s. s ≡ Usage → NamesNoPeriod k c.args.archive.now.records)) (sym c.in-AllenPair.is)
    (no_usage _ c.write_allen_pair.result (allen_pair_report c.args.archive.now.records c.in-AllenPair.a c.in-AllenPair.b).status
    (pair_usage c.args.archive.now.records c.in-AllenPair.a c.in-AllenPair.b) (rw (c.as_str-in-AllenPair.ensures, c.as_str-in-AllenPair-2.ensures) at c.write_allen_pair.ensures.status))

pub returns-in-When-clause-report : goal.returns-in-When-clause-report
returns-in-When-clause-report g c =
    let fit : SFits w128 c.in-When.t = search rules in
    subst (λ (k : Query). IfSome (records_report k c.args.archive.now.records) (λ r. Writes g.W.Sink.written g.W.Sink.faults g.W.Sink.sure c.args.out.now c.write_when.new.out r c.write_when.result))
    (sym c.in-When.is)
    (subst (λ (t : ℤ). Writes g.W.Sink.written g.W.Sink.faults g.W.Sink.sure c.args.out.now c.write_when.new.out (when_report c.args.archive.now.records t) c.write_when.result)
    (to_z-of_z w128 c.in-When.t fit) c.write_when.ensures)
