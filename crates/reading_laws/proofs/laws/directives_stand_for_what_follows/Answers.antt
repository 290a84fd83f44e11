use Rattle.reading_laws.proofs.Sets.{stands_behind}
use Rattle.reading_laws.proofs.laws.directives_stand_for_what_follows.Goals as goal

pub returns : goal.returns
returns c = stands_behind
