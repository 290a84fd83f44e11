use Rattle.time_primitive.proofs.Spelling.{begins_on, begins_all}
use Rattle.time_primitive.proofs.laws.begun_texts_go_on.Goals as goal

pub returns-clause-on : goal.returns-clause-on
returns-clause-on c = begins_on

pub returns-clause-all : goal.returns-clause-all
returns-clause-all c = begins_all
