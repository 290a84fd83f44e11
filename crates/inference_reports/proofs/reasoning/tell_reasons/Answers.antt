use Rattle.std.proofs.Common.{◌≡◌, subst}
use Rattle.boundary_orders.specs.Dossiers.{Findings}
use Rattle.inference_reports.proofs.reasoning.tell_reasons.Goals as goal

pub print_reasons-requires-clause-analysis : goal.print_reasons-requires-clause-analysis
print_reasons-requires-clause-analysis g c =
    subst (λ (f : Findings). c.in_ok-analysis.analysis ≡ record { set = f.orders; periods = f.periods }) c.requires.dossier c.in_ok-analysis.ensures.subject
