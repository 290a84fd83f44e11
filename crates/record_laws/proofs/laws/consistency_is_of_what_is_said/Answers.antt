use Rattle.record_laws.proofs.BothWays.{consistent_alike}
use Rattle.record_laws.proofs.laws.consistency_is_of_what_is_said.Goals as goal

pub returns : goal.returns
returns c = λ r q m back same. consistent_alike r q m back same
