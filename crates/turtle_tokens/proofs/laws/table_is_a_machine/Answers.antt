use Rattle.turtle_tokens.specs.Tested.{turtle_machine}
use Rattle.turtle_tokens.proofs.laws.table_is_a_machine.Goals as goal

pub returns : goal.returns
returns c = turtle_machine
