-- Extents, and which of them are periods.
use Rattle.std.specs.Prelude.{ℕ, ◌==◌, ◌&&◌, ◌||◌, ◌++◌, Bool, true, false, cond, not, Option, Some, None, List, [], ◌∷◌, filter, flat_map}
use Rattle.std.specs.List.{list_any, filter_map}
use Rattle.std.specs.Option.{option_map}
use Rattle.rdf_terms.specs.declared.terms.Term.{Term}
use Rattle.rdf_terms.specs.declared.terms.Triple.{Triple}
use Rattle.rdf_terms.specs.Terms.{same_term}
use Rattle.rdf_terms.specs.Naming.{NameLists}
use Rattle.crm_classes.specs.Classes.{is_within, e2, e52, e92}
use Rattle.crm_properties.specs.PropertyNumbers.{p4, p160, p86}
use Rattle.crm_type_check.specs.declared.Fault.{Fault}
use Rattle.crm_type_check.specs.Meaning.{class_of, is_type}
use Rattle.boundary_orders.specs.declared.statements.Statement.{Statement}
use Rattle.boundary_orders.specs.Statements.{is_faulty, is_dated, statements_of}

-- the resource ends of a statement, each with whether it is a period there: both ends are, but for the range of P4 and P160, both
-- ends of P86, and the domain of a date
abbrev pub ends_of : Statement → List (Term × Bool)
ends_of s =
    cond (is_dated s.code) ((s.domain, false) ∷ [])
    ((s.domain, not (s.code == p86)) ∷ (s.range, not (s.code == p4 || s.code == p160 || s.code == p86)) ∷ [])

-- a node of the class E2, E92 or one below is a period, and one of E52 or below an extent
abbrev pub by_class : Term → Option ℕ → List (Term × Bool)
by_class node None = []
by_class node (Some c) =
    cond (is_within c e2 || is_within c e92) ((node, true) ∷ []) (cond (is_within c e52) ((node, false) ∷ []) [])

-- what a type triple without fault makes of its subject
abbrev pub by_type : NameLists → List Fault → ℕ × Triple → List (Term × Bool)
by_type names faults p = cond (is_faulty faults p.0 || not (is_type names p.1)) [] (by_class p.1.s (class_of names p.1.o))

-- where nodes are extents, each with whether it is a period there: at the ends of statements, and by their types
abbrev pub standings_of : NameLists → List (ℕ × Triple) → List Fault → List (Term × Bool)
standings_of names triples faults =
    flat_map (λ s. ends_of s.1) (statements_of names triples faults) ++ flat_map (by_type names faults) triples

abbrev pub is_extent : List (Term × Bool) → Term → Bool
is_extent standings node = list_any (λ s. same_term s.0 node) standings

abbrev pub is_period : List (Term × Bool) → Term → Bool
is_period standings node = list_any (λ s. same_term s.0 node && s.1) standings

-- for an extent, whether it is a period
abbrev pub kind_of : List (Term × Bool) → Term → Option Bool
kind_of standings node = cond (is_extent standings node) (Some (is_period standings node)) None

-- each term once, at the place of its first coming
abbrev pub distinct : List Term → List Term
distinct [] = []
distinct (t ∷ ts) = t ∷ filter (λ u. not (same_term t u)) (distinct ts)

-- the subjects and objects of triples, the subject of each first
abbrev pub ends_in : List (ℕ × Triple) → List Term
ends_in triples = flat_map (λ p. p.1.s ∷ p.1.o ∷ []) triples

-- the nodes that have a kind, in the order of their first coming, each with its kind
abbrev pub rows_by : (Term → Option Bool) → List Term → List (Term × Bool)
rows_by kind nodes = filter_map (λ t. option_map (λ b. (t, b)) (kind t)) (distinct nodes)

-- the extents by number, each with whether it is a period
abbrev pub extents_of : NameLists → List (ℕ × Triple) → List Fault → List (Term × Bool)
extents_of names triples faults = rows_by (kind_of (standings_of names triples faults)) (ends_in triples)
