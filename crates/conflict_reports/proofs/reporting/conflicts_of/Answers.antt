use Rattle.std.proofs.Common.{◌≡◌, subst}
use Rattle.std.specs.Prelude.{IfOk, Option}
use Rattle.order_analysis.specs.Subjects.{Subject}
use Rattle.order_conflicts.specs.declared.conflicts.Conflicts.{Conflicts}
use Rattle.order_conflicts.specs.Conflicts.{conflicts_in}
use Rattle.conflict_reports.proofs.reporting.conflicts_of.Goals as goal

pub returns : goal.returns
returns c =
    subst (λ (s : Subject). IfOk c.find_conflicts.result (λ (o : Option Conflicts). o ≡ conflicts_in s.set)) c.in_ok-analysis.ensures.subject c.find_conflicts.ensures
