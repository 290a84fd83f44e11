-- Statements: the triples without fault that make orders.
use Rattle.std.specs.Prelude.{ℕ, ◌==◌, Bool, cond, nat_le, ◌||◌, Option, Some, None, List}
use Rattle.std.specs.List.{list_any, filter_map}
use Rattle.std.specs.Option.{option_map}
use Rattle.rdf_terms.specs.declared.terms.Triple.{Triple}
use Rattle.rdf_terms.specs.Naming.{NameLists}
use Rattle.crm_properties.specs.declared.Prop.{Prop}
use Rattle.crm_properties.specs.PropertyNumbers.{p82a, p81a, p81b, p82b, ap13_same}
use Rattle.crm_type_check.specs.declared.Fault.{Fault}
use Rattle.crm_type_check.specs.declared.relation.Relation.{Relation}
use Rattle.crm_type_check.specs.Meaning.{property_of, makes_relation}
use Rattle.crm_type_check.specs.Faults.{domain_end, range_end}
use Rattle.crm_type_check.specs.Relations.{relation_of}
use Rattle.boundary_orders.specs.declared.statements.Statement.{Statement}

-- some fault names the triple of this number
abbrev pub is_faulty : List Fault → ℕ → Bool
is_faulty faults n = list_any (λ f. f.triple == n) faults

-- the eight primitives, P4, P160, P9, P10, P86, the four dates and the three typed relations are the first of the profile's table
abbrev pub makes_orders : ℕ → Bool
makes_orders code = nat_le code ap13_same

abbrev pub is_dated : ℕ → Bool
is_dated code = code == p82a || code == p81a || code == p81b || code == p82b

abbrev pub by_property : Triple → Option Prop → Option Statement
by_property t None = None
by_property t (Some p) = cond (makes_orders p.code) (Some (record { code = p.code; domain = domain_end p t; range = range_end p t })) None

abbrev pub by_relation : Option Relation → Option Statement
by_relation None = None
by_relation (Some r) = Some (record { code = r.kind; domain = r.from; range = r.to })

-- what a triple states by its property, or as the one that makes a node a full relation
abbrev pub meaning_of : NameLists → List (ℕ × Triple) → Triple → Option Statement
meaning_of names triples t = cond (makes_relation names t) (by_relation (relation_of names triples t.s)) (by_property t (property_of names t.p))

-- a triple with a fault states nothing
abbrev pub statement_of : NameLists → List (ℕ × Triple) → List Fault → ℕ × Triple → Option (ℕ × Statement)
statement_of names triples faults p = cond (is_faulty faults p.0) None (option_map (λ s. (p.0, s)) (meaning_of names triples p.1))

-- all statements with the numbers of their triples
abbrev pub statements_of : NameLists → List (ℕ × Triple) → List Fault → List (ℕ × Statement)
statements_of names triples faults = filter_map (statement_of names triples faults) triples
