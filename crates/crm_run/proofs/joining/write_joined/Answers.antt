use Rattle.crm_run.proofs.Usages.{asks_nothing}
use Rattle.crm_run.proofs.joining.write_joined.Goals as goal

pub returns-in-Joined-clause-usage : goal.returns-in-Joined-clause-usage
returns-in-Joined-clause-usage g c =
    asks_nothing c.args.report c.query_of.result c.finish.result.records c.write_report-in-Joined.result c.query_of.ensures c.write_report-in-Joined.ensures.usage
