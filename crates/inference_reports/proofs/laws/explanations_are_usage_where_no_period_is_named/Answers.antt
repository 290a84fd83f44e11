use Rattle.inference_reports.proofs.Naming.{usage_of, of_usage}
use Rattle.inference_reports.proofs.laws.explanations_are_usage_where_no_period_is_named.Goals as goal

pub returns : goal.returns
returns c = λ r a p b. (usage_of r a p b, of_usage r a p b)
