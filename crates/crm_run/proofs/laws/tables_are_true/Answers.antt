use Rattle.crm_run.proofs.Related.{true_table}
use Rattle.crm_run.proofs.laws.tables_are_true.Goals as goal

pub returns : goal.returns
returns c = λ set periods front conditions range. true_table c.reports_are_consistent_where_some_placing_satisfies.ensures set conditions periods front range
