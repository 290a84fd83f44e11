use Rattle.record_laws.proofs.OneWay.{one_way}
use Rattle.record_laws.proofs.Standing.{kind_same}
use Rattle.record_laws.proofs.laws.extents_are_of_what_is_said.Goals as goal

pub returns : goal.returns
returns c = λ r q m back same node. kind_same r.names q.names r.triples q.triples m (one_way r.names q.names r.triples q.triples m back same) node
