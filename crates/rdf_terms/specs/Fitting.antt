-- What the terms of a triple stand for by the names of its document.
use Rattle.std.specs.Prelude.{ℕ, Bool, true, false, ◌&&◌, not, nat_lt, Option, None, List, length, slice_get}
use Rattle.std.specs.List.{AllPass}
use Rattle.rdf_terms.specs.declared.terms.Term.{Term}
use Rattle.rdf_terms.specs.declared.terms.Term.TheVariants.{Iri, Blank, Lit}
use Rattle.rdf_terms.specs.declared.terms.Triple.{Triple}
use Rattle.rdf_terms.specs.declared.terms.Literal.{Literal}
use Rattle.rdf_terms.specs.Naming.{NameLists}

abbrev pub is_iri : Term → Bool
is_iri (Iri n) = true
is_iri (Blank n) = false
is_iri (Lit n) = false

abbrev pub is_literal : Term → Bool
is_literal (Iri n) = false
is_literal (Blank n) = false
is_literal (Lit n) = true

-- the IRI that a term stands for
abbrev pub iri_of : NameLists → Term → Option (List ℕ)
iri_of names (Iri n) = slice_get names.iris n
iri_of names (Blank n) = None
iri_of names (Lit n) = None

-- the literal that a term stands for
abbrev pub literal_of : NameLists → Term → Option Literal
literal_of names (Iri n) = None
literal_of names (Blank n) = None
literal_of names (Lit n) = slice_get names.literals n

-- whether an IRI or a literal is among the names; a blank node needs no name
abbrev pub is_among : NameLists → Term → Bool
is_among names (Iri n) = nat_lt n (length names.iris)
is_among names (Blank n) = true
is_among names (Lit n) = nat_lt n (length names.literals)

-- whether the names of a triple are there, its subject is no literal and its predicate is an IRI
abbrev pub fits : NameLists → Triple → Bool
fits names t = not (is_literal t.s) && is_iri t.p && is_among names t.s && is_among names t.p && is_among names t.o

-- each triple fits the names
abbrev pub AllFit : NameLists → List Triple → Type 0
AllFit names triples = AllPass (fits names) triples
