use Rattle.ntriples_tokens.specs.Tested.{ntriples_machine}
use Rattle.ntriples_tokens.proofs.laws.table_is_a_machine.Goals as goal

pub returns : goal.returns
returns c = ntriples_machine
