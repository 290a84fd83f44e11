-- All faults of a triple.
use Rattle.std.proofs.Common.{◌≡◌, ℕ, Bool, ◌&&◌, not, Option, is_some, Some, None, List, map, filter, refl, sym, ap, subst, ◌∙◌}
use Rattle.std.specs.Option.{option_map}
use Rattle.rdf_terms.specs.declared.terms.Term.{Term}
use Rattle.rdf_terms.specs.declared.terms.Triple.{Triple}
use Rattle.rdf_terms.specs.Naming.{NameLists}
use Rattle.triple_pool.specs.Pool.{number_from}
use Rattle.crm_properties.specs.PropertyNumbers.{relation_from, relation_to, relation_type}
use Rattle.crm_type_check.specs.declared.own.OwnFaults.{OwnFaults}
use Rattle.crm_type_check.specs.declared.relation.Relation.{Relation}
use Rattle.crm_type_check.specs.Meaning.{makes_relation}
use Rattle.crm_type_check.specs.Faults.{declared_in, own_faults}
use Rattle.crm_type_check.specs.Relations.{has_property, occurrence, parts_in, relation_of, has_a1, kinds, kinds_of}
use Rattle.record_laws.specs.Renaming.{IsRenamed, renamed_relation}
use Rattle.record_laws.proofs.OneWay.{OneWay}
use Rattle.record_laws.proofs.Members.{map_numbered}
use Rattle.record_laws.proofs.Owning.{declared_same, relation_same, own_same}
use Rattle.record_laws.proofs.Relating.{AreAlike, part_same, with_same}

module _ (names other : NameLists) (triples others : List Triple) (m : Term → Term) (same : OneWay names triples other others m) where
  part_numbered : (node : Term) (code : ℕ) → AreAlike m (occurrence (filter (has_property names node code) (map (λ p. p.1) (number_from 0 triples)))) (occurrence (filter (has_property other (m node) code) (map (λ p. p.1) (number_from 0 others))))
  part_numbered node code =
      subst (λ (ts : List Triple). AreAlike m (occurrence (filter (has_property names node code) ts)) (occurrence (filter (has_property other (m node) code) (map (λ p. p.1) (number_from 0 others))))) (sym (map_numbered 0 triples))
      (subst (λ (us : List Triple). AreAlike m (occurrence (filter (has_property names node code) triples)) (occurrence (filter (has_property other (m node) code) us))) (sym (map_numbered 0 others))
      (part_same names other triples others m same node code))

  -- the full relation that a node is
  pub full_relation_same : (node : Term) → relation_of other (number_from 0 others) (m node) ≡ option_map (renamed_relation m) (relation_of names (number_from 0 triples) node)
  full_relation_same node =
      with_same names other triples others m same (declared_in names (number_from 0 triples)) (declared_in other (number_from 0 others)) (declared_same names other m same.renaming triples others same) _ _ _ _ _ _
      (part_numbered node relation_from) (part_numbered node relation_to) (part_numbered node relation_type)

  some_same : (x : Option Relation) → is_some (option_map (renamed_relation m) x) ≡ is_some x
  some_same None = refl
  some_same (Some r) = refl

  a1_same : (t u : Triple) → IsRenamed m t u → has_a1 other (declared_in other (number_from 0 others)) (parts_in other (number_from 0 others)) u ≡ has_a1 names (declared_in names (number_from 0 triples)) (parts_in names (number_from 0 triples)) t
  a1_same t u r =
      ap (λ (b : Bool). b && not (is_some (relation_of other (number_from 0 others) u.s))) (relation_same names other m same.renaming t u r)
      ∙ ap (λ (x : Term). makes_relation names t && not (is_some (relation_of other (number_from 0 others) x))) r.s
      ∙ ap (λ (b : Bool). makes_relation names t && not b) (ap (λ (o : Option Relation). is_some o) (full_relation_same t.s) ∙ some_same (relation_of names (number_from 0 triples) t.s))

  pub kinds_same : (t u : Triple) → IsRenamed m t u → kinds_of other (number_from 0 others) u ≡ kinds_of names (number_from 0 triples) t
  kinds_same t u r =
      ap (λ (o : OwnFaults). kinds o (has_a1 other (declared_in other (number_from 0 others)) (parts_in other (number_from 0 others)) u))
      (own_same names other m same.renaming (declared_in names (number_from 0 triples)) (declared_in other (number_from 0 others)) (declared_same names other m same.renaming triples others same) t u r)
      ∙ ap (λ (b : Bool). kinds (own_faults names (declared_in names (number_from 0 triples)) t) b) (a1_same t u r)
