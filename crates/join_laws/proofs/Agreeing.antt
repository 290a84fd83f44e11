-- What is found in archives that say the same is the same.
use Rattle.std.specs.List.Sorted.{IsPermutation}
use Rattle.std.proofs.Common.{List}
use Rattle.rdf_terms.specs.declared.terms.Term.{Term}
use Rattle.rdf_terms.specs.declared.triples.Records.{Records}
use Rattle.crm_core.specs.Contents.{Contents}
use Rattle.archive_join.specs.Archives.{joined}
use Rattle.record_laws.specs.Renaming.{Same}
use Rattle.record_laws.proofs.OneWay.{one_way}
use Rattle.record_laws.proofs.Faulted.{kinds_same}
use Rattle.record_laws.proofs.Standing.{kind_same}
use Rattle.record_laws.proofs.BothWays.{consistent_alike, follows_alike}
use Rattle.join_laws.specs.Agreeing.{AgreeUpTo}
use Rattle.join_laws.proofs.Renaming.{same_joined}

agree : (r q : Records) (m back : Term → Term) → Same r q m back → AgreeUpTo m r q
agree r q m back same =
    let one = one_way r.names q.names r.triples q.triples m back same in
    record {
      faults = λ t u is. kinds_same r.names q.names r.triples q.triples m one t u is;
      extents = λ node. kind_same r.names q.names r.triples q.triples m one node;
      consistency = consistent_alike r q m back same;
      follows = λ a b ha hb i j strict. follows_alike r q m back same a b ha hb i j strict;
    }

pub found_alike : (files others : List Contents) → IsPermutation files others → (m : Term → Term) × AgreeUpTo m (joined files).records (joined others).records
found_alike files others p =
    let same = same_joined files others p in
    (same.0, agree (joined files).records (joined others).records same.0 same.1 same.2)
