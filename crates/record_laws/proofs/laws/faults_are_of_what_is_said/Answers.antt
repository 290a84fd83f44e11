use Rattle.record_laws.proofs.OneWay.{one_way}
use Rattle.record_laws.proofs.Faulted.{kinds_same}
use Rattle.record_laws.proofs.laws.faults_are_of_what_is_said.Goals as goal

pub returns : goal.returns
returns c = λ r q m back same t u renamed. kinds_same r.names q.names r.triples q.triples m (one_way r.names q.names r.triples q.triples m back same) t u renamed
