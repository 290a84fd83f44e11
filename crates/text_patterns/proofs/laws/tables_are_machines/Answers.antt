use Rattle.text_patterns.proofs.Steps.{table_machine}
use Rattle.text_patterns.proofs.laws.tables_are_machines.Goals as goal

pub returns : goal.returns
returns g c = λ t right. table_machine t right
