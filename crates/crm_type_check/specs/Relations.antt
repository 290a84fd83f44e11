-- Relations that are nodes, and all faults.
use Rattle.std.specs.Prelude.{ℕ, ◌==◌, ◌&&◌, ◌++◌, Bool, cond, not, Option, Some, None, List, [], ◌∷◌, filter, map, flat_map, is_some}
use Rattle.rdf_terms.specs.declared.terms.Term.{Term}
use Rattle.rdf_terms.specs.declared.terms.Triple.{Triple}
use Rattle.rdf_terms.specs.Terms.{same_term}
use Rattle.rdf_terms.specs.Naming.{NameLists}
use Rattle.crm_properties.specs.declared.Prop.{Prop}
use Rattle.crm_properties.specs.PropertyNumbers.{relation_from, relation_to, relation_type, is_typed_relation}
use Rattle.time_primitive.specs.declared.DateFault.{DateFault}
use Rattle.crm_type_check.specs.declared.own.OwnFaults.{OwnFaults}
use Rattle.crm_type_check.specs.declared.relation.Occurrence.{Occurrence}
use Rattle.crm_type_check.specs.declared.relation.Occurrence.TheVariants.{Absent, Once, Repeated}
use Rattle.crm_type_check.specs.declared.relation.RelationParts.{RelationParts}
use Rattle.crm_type_check.specs.declared.relation.Relation.{Relation}
use Rattle.crm_type_check.specs.declared.FaultKind.{FaultKind}
use Rattle.crm_type_check.specs.declared.FaultKind.TheVariants.{C1, C2, C3, D1, R1, R2, R3, R4, A1}
use Rattle.crm_type_check.specs.declared.Fault.{Fault}
use Rattle.crm_type_check.specs.Meaning.{passes, property_of, makes_relation}
use Rattle.crm_type_check.specs.Faults.{Declared, declared_in, own_faults, is_sound}

-- the triple has the node as its subject, and this property
abbrev pub has_property : NameLists → Term → ℕ → Triple → Bool
has_property names node code t = same_term t.s node && passes (λ p. p.code == code) (property_of names t.p)

abbrev pub with_property : NameLists → List (ℕ × Triple) → Term → ℕ → List Triple
with_property names triples node code = filter (has_property names node code) (map (λ p. p.1) triples)

abbrev pub occurrence : List Triple → Occurrence
occurrence [] = Absent
occurrence (t ∷ []) = Once t
occurrence (t ∷ u ∷ ts) = Repeated

-- what the triples say of the parts of a relation
abbrev pub parts_in : NameLists → List (ℕ × Triple) → Term → RelationParts
parts_in names triples node = record {
  from = occurrence (with_property names triples node relation_from);
  to = occurrence (with_property names triples node relation_to);
  kind = occurrence (with_property names triples node relation_type);
}

abbrev pub relation_by : Triple → Triple → Option Prop → Option Relation
relation_by f t None = None
relation_by f t (Some p) = cond (is_typed_relation p.code) (Some (record { from = f.o; to = t.o; kind = p.code })) None

-- exactly one triple of each of the three properties, the first two without a fault of their own, the third with a typed relation
abbrev pub relation_with : NameLists → Declared → Occurrence → Occurrence → Occurrence → Option Relation
relation_with names declared (Once f) (Once t) (Once k) =
    cond (is_sound (own_faults names declared f) && is_sound (own_faults names declared t)) (relation_by f t (property_of names k.o)) None
relation_with names declared f t k = None

abbrev pub relation_by_parts : NameLists → Declared → RelationParts → Option Relation
relation_by_parts names declared parts = relation_with names declared parts.from parts.to parts.kind

-- the full relation that a node is, for a node that a type triple makes a relation
abbrev pub relation_of : NameLists → List (ℕ × Triple) → Term → Option Relation
relation_of names triples node = relation_by_parts names (declared_in names triples) (parts_in names triples node)

-- the node is made a relation and is no full one
abbrev pub has_a1 : NameLists → Declared → (Term → RelationParts) → Triple → Bool
has_a1 names declared parts t = makes_relation names t && not (is_some (relation_by_parts names declared (parts t.s)))

abbrev pub when : Bool → FaultKind → List FaultKind
when b kind = cond b (kind ∷ []) []

abbrev pub when_some : Option DateFault → List FaultKind
when_some None = []
when_some (Some e) = R4 e ∷ []

-- the kinds of the faults, in their order
abbrev pub kinds : OwnFaults → Bool → List FaultKind
kinds own a1 =
    (when own.c1 C1 ++ when own.c2 C2 ++ when own.c3 C3)
    ++ (when own.d1 D1 ++ when own.r1 R1 ++ when own.r2 R2 ++ when own.r3 R3)
    ++ when_some own.r4 ++ when a1 A1

abbrev pub kinds_by : NameLists → Declared → (Term → RelationParts) → Triple → List FaultKind
kinds_by names declared parts t = kinds (own_faults names declared t) (has_a1 names declared parts t)

-- all faults of a triple
abbrev pub kinds_of : NameLists → List (ℕ × Triple) → Triple → List FaultKind
kinds_of names triples t = kinds_by names (declared_in names triples) (parts_in names triples) t

abbrev pub fault_at : ℕ → Triple → FaultKind → Fault
fault_at number t kind = record { triple = number; at = t.at; kind = kind }

-- the faults of a triple with its number, among all triples
abbrev pub faults_at : NameLists → List (ℕ × Triple) → ℕ × Triple → List Fault
faults_at names triples p = map (fault_at p.0 p.1) (kinds_of names triples p.1)

-- all faults, by triple number and then in the order of the kinds
abbrev pub faults_of : NameLists → List (ℕ × Triple) → List Fault
faults_of names triples = flat_map (faults_at names triples) triples
