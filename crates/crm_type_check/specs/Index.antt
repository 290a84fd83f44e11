-- What a pass over all triples notes of each node: its declared classes as marks by number, and the parts of a relation.
use Rattle.std.specs.Prelude.{ℕ, suc, ◌≡◌, ◌<◌, ◌==◌, ◌&&◌, ◌||◌, Bool, true, false, cond, Option, Some, None, List, [], ◌∷◌, slice_index_or, slice_set, length, nat_eq, replicate}
use Rattle.std.specs.Option.{unwrap_or}
use Rattle.indexmap.specs.IndexMap.{IndexMap, get}
use Rattle.rdf_terms.specs.declared.terms.Term.{Term}
use Rattle.rdf_terms.specs.declared.terms.Triple.{Triple}
use Rattle.rdf_terms.specs.contracts.terms.TermPartialEq.TheImpl.{ghosts}
use Rattle.rdf_terms.specs.Terms.{same_term}
use Rattle.rdf_terms.specs.Naming.{NameLists}
use Rattle.crm_type_check.specs.declared.classes.ClassSet.{ClassSet}
use Rattle.crm_type_check.specs.declared.classes.ClassTest.{ClassTest}
use Rattle.crm_type_check.specs.declared.classes.ClassTest.TheVariants.{Any, Comparable, Incompatible}
use Rattle.crm_classes.specs.Classes.{is_comparable, is_incompatible}
use Rattle.crm_type_check.specs.declared.relation.Occurrence.{Occurrence}
use Rattle.crm_type_check.specs.declared.relation.Occurrence.TheVariants.{Absent, Once, Repeated}
use Rattle.crm_type_check.specs.declared.relation.RelationParts.{RelationParts}
use Rattle.crm_properties.specs.declared.Prop.{Prop}
use Rattle.crm_properties.specs.PropertyNumbers.{relation_from, relation_to, relation_type}
use Rattle.crm_type_check.specs.Meaning.{class_of, is_type, property_of}
use Rattle.crm_type_check.specs.Faults.{Declared, declared_in}
use Rattle.crm_type_check.specs.Relations.{parts_in}

-- no class is marked
abbrev pub no_classes : ClassSet
no_classes = record { marks = replicate 71 false }

abbrev pub set_in : {S : Type 0} → IndexMap Term ClassSet S → Term → ClassSet
set_in m node = unwrap_or (get ghosts.eq m node) no_classes

abbrev pub is_marked : ClassSet → ℕ → Bool
is_marked set c = slice_index_or set.marks c false

-- some mark from number n on stands at a class that passes the test
abbrev pub some_from : ℕ → List Bool → (ℕ → Bool) → Bool
some_from n [] test = false
some_from n (m ∷ ms) test = (m && test n) || some_from (suc n) ms test

abbrev pub by_marks : (Term → ClassSet) → Declared
by_marks sets node test = some_from 0 (sets node).marks test

abbrev pub passes_test : ClassTest → ℕ → Bool
passes_test Any c = true
passes_test (Comparable class) c = is_comparable class c
passes_test (Incompatible class) c = is_incompatible class c

abbrev pub with_mark : Option ℕ → ClassSet → ClassSet
with_mark None set = set
with_mark (Some c) set = record { marks = slice_set set.marks c true }

-- the set of a node after a triple
abbrev pub set_after : NameLists → Triple → Term → ClassSet → ClassSet
set_after names t node set = cond (same_term t.s node && is_type names t) (with_mark (class_of names t.o) set) set

abbrev pub no_parts : RelationParts
no_parts = record { from = Absent; to = Absent; kind = Absent }

abbrev pub parts_at : {S : Type 0} → IndexMap Term RelationParts S → Term → RelationParts
parts_at m node = unwrap_or (get ghosts.eq m node) no_parts

abbrev pub once_more : Occurrence → Triple → Occurrence
once_more Absent t = Once t
once_more (Once u) t = Repeated
once_more Repeated t = Repeated

abbrev pub with_part : Option Prop → Triple → RelationParts → RelationParts
with_part None t parts = parts
with_part (Some p) t parts = record {
  from = cond (p.code == relation_from) (once_more parts.from t) parts.from;
  to = cond (p.code == relation_to) (once_more parts.to t) parts.to;
  kind = cond (p.code == relation_type) (once_more parts.kind t) parts.kind;
}

-- the parts of a node after a triple
abbrev pub parts_after : NameLists → Triple → Term → RelationParts → RelationParts
parts_after names t node parts = cond (same_term t.s node) (with_part (property_of names t.p) t parts) parts

-- what is noted is what the triples say
pub record IsIndex (names : NameLists) (triples : List (ℕ × Triple)) (sets : Term → ClassSet) (relations : Term → RelationParts) : Type 0 where
  pub marks : (node : Term) (c : ℕ) → c < 71 → is_marked (sets node) c ≡ declared_in names triples node (nat_eq c)
  pub sizes : (node : Term) → length (sets node).marks ≡ 71
  pub parts : (node : Term) → relations node ≡ parts_in names triples node
