-- Triples by what their terms stand for, so that those of several files can be compared.
use Rattle.std.specs.Prelude.{ℕ, ◌+◌, List, [], ◌∷◌, Option, Some, None, slice_get}
use Rattle.std.specs.Option.{option_map}
use Rattle.std.specs.List.{filter_map}
use Rattle.rdf_terms.specs.declared.terms.Literal.{Literal}
use Rattle.rdf_terms.specs.declared.terms.Term.{Term}
use Rattle.rdf_terms.specs.declared.terms.Term.TheVariants as term
use Rattle.rdf_terms.specs.declared.terms.Triple.{Triple}
use Rattle.rdf_terms.specs.declared.triples.Records.{Records}
use Rattle.rdf_terms.specs.Naming.{NameLists, iri_number, with_iri, literal_number, with_literal}
use Rattle.rdf_terms.specs.Terms.{with_triple, triple_of}

-- what a term stands for: the text of an IRI, a blank node, or a literal
pub data Value : Type 0 where
  Iri : List ℕ → Value
  Blank : ℕ → Value
  Lit : Literal → Value

-- a triple of values, and the place of its object
pub record ValueTriple : Type 0 where
  pub s : Value
  pub p : Value
  pub o : Value
  pub at : ℕ

abbrev pub value : NameLists → Term → Option Value
value names (term.Iri n) = option_map (λ text. Value.Iri text) (slice_get names.iris n)
value names (term.Blank n) = Some (Value.Blank n)
value names (term.Lit n) = option_map (λ literal. Value.Lit literal) (slice_get names.literals n)

-- the triple of three values that are all there
abbrev pub of_three : Option Value → Option Value → Option Value → ℕ → Option ValueTriple
of_three None p o at = None
of_three (Some s) None o at = None
of_three (Some s) (Some p) None at = None
of_three (Some s) (Some p) (Some o) at = Some (record { s = s; p = p; o = o; at = at })

-- what a triple says; nothing where a name is not there, which is so in no file that was read
abbrev pub value_triple : NameLists → Triple → Option ValueTriple
value_triple names t = of_three (value names t.s) (value names t.p) (value names t.o) t.at

-- what records say, in order
abbrev pub value_triples : NameLists → List Triple → List ValueTriple
value_triples names triples = filter_map (value_triple names) triples

-- the names with a value, and its term among them
abbrev pub names_with : NameLists → Value → NameLists
names_with names (Iri text) = with_iri names text
names_with names (Blank n) = names
names_with names (Lit literal) = with_literal names literal

abbrev pub term_of : NameLists → Value → Term
term_of names (Iri text) = term.Iri (iri_number names text)
term_of names (Blank n) = term.Blank n
term_of names (Lit literal) = term.Lit (literal_number names literal)

-- The values of a triple are named in the order of subject, predicate and object.
abbrev pub names_with_three : NameLists → ValueTriple → NameLists
names_with_three names x = names_with (names_with (names_with names x.s) x.p) x.o

abbrev pub terms_of : NameLists → ValueTriple → Term × Term × Term
terms_of names x = (term_of names x.s, term_of (names_with names x.s) x.p, term_of (names_with (names_with names x.s) x.p) x.o)

-- The triple goes last, where none has the same three terms.
abbrev pub with_values : Records → ValueTriple → Records
with_values r x = record { names = names_with_three r.names x; triples = with_triple r.triples (triple_of (terms_of r.names x, x.at)) }

unfoldable pub with_all : Records → List ValueTriple → Records
with_all r [] = r
with_all r (x ∷ xs) = with_all (with_values r x) xs

-- A blank node is told from those of the files before by its number.
abbrev pub moved_value : ℕ → Value → Value
moved_value blanks (Iri text) = Value.Iri text
moved_value blanks (Blank n) = Value.Blank (n + blanks)
moved_value blanks (Lit value) = Value.Lit value

-- behind so many blank nodes and bytes
abbrev pub moved : ℕ → ℕ → ValueTriple → ValueTriple
moved blanks length x = record { s = moved_value blanks x.s; p = moved_value blanks x.p; o = moved_value blanks x.o; at = x.at + length }
