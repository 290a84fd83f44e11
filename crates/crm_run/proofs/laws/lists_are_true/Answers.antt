use Rattle.crm_run.proofs.Related.{true_list}
use Rattle.crm_run.proofs.laws.lists_are_true.Goals as goal

pub returns : goal.returns
returns c = λ set a b front conditions in_a in_b. true_list c.reports_are_consistent_where_some_placing_satisfies.ensures set conditions a b front in_a in_b
