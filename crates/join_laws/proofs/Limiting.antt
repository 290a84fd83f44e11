-- Files in another order have as many names and triples together.
use Rattle.std.proofs.Common.{◌≡◌, ◌≤◌, true, List, length, map, refl, sym, ap, ◌∙◌, arith}
use Rattle.std.specs.Cmp.{IsEquivalence}
use Rattle.std.specs.List.Sorted.{IsPermutation}
use Rattle.std.specs.Set.{is_member}
use Rattle.std.proofs.lemmas.List.Sorted.{IsPermutation-sym}
use Rattle.std.proofs.lemmas.List.{length-map}
use Rattle.std.proofs.lemmas.Map.Made.{length-le_from_is_member}
use Rattle.rdf_terms.specs.declared.terms.Term.{Term}
use Rattle.rdf_terms.specs.declared.terms.Triple.{Triple}
use Rattle.rdf_terms.specs.declared.triples.Records.{Records}
use Rattle.rdf_terms.specs.Terms.{same_terms}
use Rattle.rdf_terms.proofs.Numbered.{list_any_map, distinct_map}
use Rattle.rdf_terms.proofs.TermLemmas.{same_terms-true}
use Rattle.crm_core.specs.Contents.{Contents}
use Rattle.archive_join.specs.Archives.{joined}
use Rattle.archive_join.specs.Limits.{AreFew}
use Rattle.record_laws.specs.Renaming.{renamed}
use Rattle.record_laws.proofs.OneWay.{OneWay, one_way, same_bool}
use Rattle.record_laws.proofs.Members.{in_any, held_in, same_terms-refl, same_terms-from}
use Rattle.join_laws.proofs.Renaming.{is_held_by, same_joined, as_many_names}

turned_terms : (t u : Triple) → same_terms t u ≡ true → same_terms u t ≡ true
turned_terms t u h = let e = same_terms-true t u h in same_terms-from u t (sym e.0) (sym e.1) (sym e.2)

same_by : (t u v : Triple) → same_terms t u ≡ true → same_terms t v ≡ same_terms u v
same_by t u v h =
    let e = same_terms-true t u h in
    ap (λ (x : Term). same_terms (record { s = x; p = t.p; o = t.o; at = 0 }) v) e.0
    ∙ ap (λ (x : Term). same_terms (record { s = u.s; p = x; o = t.o; at = 0 }) v) e.1
    ∙ ap (λ (x : Term). same_terms (record { s = u.s; p = u.p; o = x; at = 0 }) v) e.2

equivalence : IsEquivalence same_terms
equivalence = record { refl = same_terms-refl; symm = λ t u. same_bool (same_terms t u) (same_terms u t) (turned_terms t u) (turned_terms u t); congr = same_by }

module _ (r q : Records) (m : Term → Term) (same : OneWay r.names r.triples q.names q.triples m) where
  apart : (t u : Triple) → same_terms (renamed m t) (renamed m u) ≡ same_terms t u
  apart t u = rw (same.renaming.apart t.s u.s, same.renaming.apart t.p u.p, same.renaming.apart t.o u.o) refl

  member_goes : (u : Triple) → is_member same_terms (map (renamed m) r.triples) u ≡ true → is_member same_terms q.triples u ≡ true
  member_goes u h =
      let t = in_any (λ x. same_terms u (renamed m x)) r.triples (sym (list_any_map (same_terms u) (renamed m) r.triples) ∙ h) in
      let e = same_terms-true u (renamed m t.0) t.2 in
      is_held_by q.triples u (renamed m t.0) e.0 e.1 e.2 ∙ same.there t.0 (held_in r.triples t.0 t.1)

  no_more : length r.triples ≤ length q.triples
  no_more = omega (
    arith,
    length-map r.triples (renamed m),
    length-le_from_is_member equivalence (map (renamed m) r.triples) q.triples (distinct_map same_terms same_terms (renamed m) apart r.triples same.distinct) member_goes,
  )

none_more : (files others : List Contents) → IsPermutation files others → length (joined files).records.triples ≤ length (joined others).records.triples
none_more files others p =
    let same = same_joined files others p in
    no_more (joined files).records (joined others).records same.0
    (one_way (joined files).records.names (joined others).records.names (joined files).records.triples (joined others).records.triples same.0 same.1 same.2)

-- So the limits are kept in the one order as in the other.
pub few_alike : (files others : List Contents) → IsPermutation files others → AreFew (joined files).records → AreFew (joined others).records
few_alike files others p few = record {
  names = omega (arith, few.names, as_many_names files others p);
  triples = omega (arith, few.triples, none_more others files (IsPermutation-sym files others p));
}
