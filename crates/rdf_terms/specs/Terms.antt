-- Terms and triples.
use Rattle.std.specs.Prelude.{ℕ, Bool, false, ◌&&◌, nat_eq, List, [], ◌∷◌, ◌++◌, if◌then◌else◌}
use Rattle.std.specs.List.{list_any}
use Rattle.rdf_terms.specs.declared.terms.Term.{Term}
use Rattle.rdf_terms.specs.declared.terms.Term.TheVariants.{Iri, Blank, Lit}
use Rattle.rdf_terms.specs.declared.terms.Triple.{Triple}

-- whether two terms are the same
abbrev pub same_term : Term → Term → Bool
same_term (Iri m) (Iri n) = nat_eq m n
same_term (Blank m) (Blank n) = nat_eq m n
same_term (Lit m) (Lit n) = nat_eq m n
same_term _ _ = false

-- whether two triples have the same three terms
abbrev pub same_terms : Triple → Triple → Bool
same_terms t u = (same_term t.s u.s && same_term t.p u.p) && same_term t.o u.o

-- whether a triple with the three terms is held
abbrev pub is_held : List Triple → Triple → Bool
is_held triples t = list_any (same_terms t) triples

-- the triples with one more at the end, where its three terms are new
abbrev pub with_triple : List Triple → Triple → List Triple
with_triple triples t = if is_held triples t then triples else triples ++ t ∷ []

-- the triple of three terms with their place
abbrev pub triple_of : (Term × Term × Term) × ℕ → Triple
triple_of e = record { s = e.0.0; p = e.0.1; o = e.0.2; at = e.1 }
