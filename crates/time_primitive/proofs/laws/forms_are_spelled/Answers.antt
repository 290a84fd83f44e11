use Rattle.time_primitive.proofs.Spelling.{has_spelled, spelled_has}
use Rattle.time_primitive.proofs.laws.forms_are_spelled.Goals as goal

pub returns-clause-has : goal.returns-clause-has
returns-clause-has c = has_spelled

pub returns-clause-all : goal.returns-clause-all
returns-clause-all c = spelled_has
