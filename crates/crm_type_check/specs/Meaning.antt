-- What the terms of a triple name.
use Rattle.std.specs.Prelude.{ℕ, ◌&&◌, Bool, false, Option, Some, None, option_and_then, bytes_eq}
use Rattle.rdf_terms.specs.declared.terms.Term.{Term}
use Rattle.rdf_terms.specs.declared.terms.Triple.{Triple}
use Rattle.rdf_terms.specs.Naming.{NameLists}
use Rattle.rdf_terms.specs.Fitting.{iri_of}
use Rattle.crm_properties.specs.declared.Prop.{Prop}
use Rattle.rdf_vocabulary.specs.Iris.{rdf_type}
use Rattle.crm_properties.specs.Names.{prop_of_text, class_of_iri_text, relation_iri}

-- what is there passes the test
abbrev pub passes : {X : Type 0} → (X → Bool) → Option X → Bool
passes test None = false
passes test (Some x) = test x

-- the property, or the class, that the term names
abbrev pub property_of : NameLists → Term → Option Prop
property_of names t = option_and_then prop_of_text (iri_of names t)

abbrev pub class_of : NameLists → Term → Option ℕ
class_of names t = option_and_then class_of_iri_text (iri_of names t)

-- the triple gives its subject a type
abbrev pub is_type : NameLists → Triple → Bool
is_type names t = passes (bytes_eq rdf_type) (iri_of names t.p)

-- the triple makes its subject a relation
abbrev pub makes_relation : NameLists → Triple → Bool
makes_relation names t = is_type names t && passes (bytes_eq relation_iri) (iri_of names t.o)
