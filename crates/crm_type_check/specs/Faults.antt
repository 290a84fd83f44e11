-- The faults of a triple among all triples, but for those of relations.
use Rattle.std.specs.Prelude.{ℕ, ◌==◌, ◌&&◌, ◌||◌, Bool, true, false, cond, not, ℤ, Option, Some, None, Result, Ok, Err, List, is_some}
use Rattle.std.specs.List.{list_any}
use Rattle.rdf_terms.specs.declared.terms.Term.{Term}
use Rattle.rdf_terms.specs.declared.terms.Triple.{Triple}
use Rattle.rdf_terms.specs.declared.terms.Literal.{Literal}
use Rattle.rdf_terms.specs.Terms.{same_term}
use Rattle.rdf_terms.specs.Naming.{NameLists}
use Rattle.rdf_terms.specs.Fitting.{is_literal, literal_of}
use Rattle.crm_classes.specs.Classes.{is_comparable, is_incompatible}
use Rattle.crm_properties.specs.declared.Prop.{Prop}
use Rattle.crm_properties.specs.declared.RangeKind.{RangeKind}
use Rattle.crm_properties.specs.declared.RangeKind.TheVariants.{Class, Text, Date}
use Rattle.crm_properties.specs.Names.{row_at}
use Rattle.crm_properties.specs.PropertyNumbers.{ap7, p82a, p81b}
use Rattle.time_primitive.specs.declared.Side.{Side}
use Rattle.time_primitive.specs.declared.Side.TheVariants.{Lower, Upper}
use Rattle.time_primitive.specs.declared.DateFault.{DateFault}
use Rattle.time_primitive.specs.Dates.{date_of}
use Rattle.crm_type_check.specs.declared.own.OwnFaults.{OwnFaults}
use Rattle.crm_type_check.specs.Meaning.{passes, property_of, class_of, is_type}

-- some declared class of a node passes a test
abbrev pub Declared : Type 0
Declared = Term → (ℕ → Bool) → Bool

-- the triple gives the node a class that passes the test
abbrev pub declares : NameLists → Term → (ℕ → Bool) → Triple → Bool
declares names node test t = same_term t.s node && (is_type names t && passes test (class_of names t.o))

-- the classes that all triples give the node are its declared ones
abbrev pub declared_in : NameLists → List (ℕ × Triple) → Declared
declared_in names triples node test = list_any (λ p. declares names node test p.1) triples

-- the node has a declared class, and none is comparable with the one that is asked for
abbrev pub misfits : Declared → Term → ℕ → Bool
misfits declared node class = declared node (λ c. true) && not (declared node (is_comparable class))

-- the node at the domain of a property, and that at its range
abbrev pub domain_end : Prop → Triple → Term
domain_end p t = cond p.inverse t.o t.s

abbrev pub range_end : Prop → Triple → Term
range_end p t = cond p.inverse t.s t.o

-- AP7 only labels cells
abbrev pub is_checked : Prop → Bool
is_checked p = not (p.code == ap7)

abbrev pub is_class : RangeKind → Bool
is_class (Class c) = true
is_class Text = false
is_class Date = false

abbrev pub is_date : RangeKind → Bool
is_date (Class c) = false
is_date Text = false
is_date Date = true

abbrev pub misfits_range : Declared → Term → RangeKind → Bool
misfits_range declared node (Class c) = misfits declared node c
misfits_range declared node Text = false
misfits_range declared node Date = false

-- P82a and P81b ask for the lower side of a date, P81a and P82b for the upper one
abbrev pub side_of : ℕ → Side
side_of code = cond (code == p82a || code == p81b) Lower Upper

-- the type of a node is a literal
abbrev pub has_c1 : NameLists → Triple → Bool
has_c1 names t = is_type names t && is_literal t.o

-- the node has another declared class that is incompatible
abbrev pub has_c2 : NameLists → Declared → Triple → Bool
has_c2 names declared t = is_type names t && passes (λ c. declared t.s (is_incompatible c)) (class_of names t.o)

-- the type of a node is a property
abbrev pub has_c3 : NameLists → Triple → Bool
has_c3 names t = is_type names t && is_some (property_of names t.o)

-- the node at the domain has classes, and none fits
abbrev pub has_d1 : Declared → Triple → Option Prop → Bool
has_d1 declared t property = passes (λ p. is_checked p && misfits declared (domain_end p t) (row_at p.code).domain) property

-- the same at the range
abbrev pub has_r1 : Declared → Triple → Option Prop → Bool
has_r1 declared t property = passes (λ p. is_checked p && misfits_range declared (range_end p t) (row_at p.code).range) property

-- a literal in place of an instance
abbrev pub has_r2 : Triple → Option Prop → Bool
has_r2 t property = is_literal t.o && passes (λ p. is_checked p && is_class (row_at p.code).range) property

-- no literal in place of a text or a date
abbrev pub has_r3 : Triple → Option Prop → Bool
has_r3 t property = not (is_literal t.o) && passes (λ p. not (is_class (row_at p.code).range)) property

abbrev pub fault_of : Result ℤ DateFault → Option DateFault
fault_of (Ok t) = None
fault_of (Err e) = Some e

abbrev pub fault_in_literal : Prop → Option Literal → Option DateFault
fault_in_literal p None = None
fault_in_literal p (Some l) = fault_of (date_of l.lexical l.datatype (side_of p.code))

-- why the literal of a date property is no date
abbrev pub date_fault : NameLists → Triple → Option Prop → Option DateFault
date_fault names t None = None
date_fault names t (Some p) = cond (is_date (row_at p.code).range) (fault_in_literal p (literal_of names t.o)) None

abbrev pub own_faults : NameLists → Declared → Triple → OwnFaults
own_faults names declared t = record {
  c1 = has_c1 names t;
  c2 = has_c2 names declared t;
  c3 = has_c3 names t;
  d1 = has_d1 declared t (property_of names t.p);
  r1 = has_r1 declared t (property_of names t.p);
  r2 = has_r2 t (property_of names t.p);
  r3 = has_r3 t (property_of names t.p);
  r4 = date_fault names t (property_of names t.p);
}

-- none of them
abbrev pub is_sound : OwnFaults → Bool
is_sound f = not (f.c1 || f.c2 || f.c3 || f.d1 || f.r1 || f.r2 || f.r3 || is_some f.r4)
