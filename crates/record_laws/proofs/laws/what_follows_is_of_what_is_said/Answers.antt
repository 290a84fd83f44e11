use Rattle.record_laws.proofs.BothWays.{follows_alike}
use Rattle.record_laws.proofs.laws.what_follows_is_of_what_is_said.Goals as goal

pub returns : goal.returns
returns c = λ r q m back same a b ha hb i j strict. follows_alike r q m back same a b ha hb i j strict
