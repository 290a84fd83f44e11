-- Names and triples, as many as may be held.
use Rattle.std.specs.Prelude.{ℕ, List, Bool, cond, ◌&&◌, not, nat_le, length, Option, None, Some}
use Rattle.rdf_terms.specs.Naming.{NameLists, has_iri, iri_number, with_iri, has_literal, literal_number, with_literal, name_count}
use Rattle.rdf_terms.specs.Terms.{is_held, with_triple}
use Rattle.rdf_terms.specs.declared.terms.Literal.{Literal}
use Rattle.rdf_terms.specs.declared.terms.Term.{Term}
use Rattle.rdf_terms.specs.declared.terms.Term.TheVariants as term
use Rattle.rdf_terms.specs.declared.terms.Triple.{Triple}

-- whether a name is new, and as many are held as may be
abbrev pub is_full_iri : NameLists → List ℕ → Bool
is_full_iri names text = not (has_iri names text) && nat_le 262144 (name_count names)

abbrev pub is_full_literal : NameLists → Literal → Bool
is_full_literal names value = not (has_literal names value) && nat_le 262144 (name_count names)

abbrev pub iri_term : NameLists → List ℕ → Option Term
iri_term names text = cond (is_full_iri names text) None (Some (term.Iri (iri_number names text)))

abbrev pub literal_term : NameLists → Literal → Option Term
literal_term names value = cond (is_full_literal names value) None (Some (term.Lit (literal_number names value)))

abbrev pub iri_names : NameLists → List ℕ → NameLists
iri_names names text = cond (is_full_iri names text) names (with_iri names text)

abbrev pub literal_names : NameLists → Literal → NameLists
literal_names names value = cond (is_full_literal names value) names (with_literal names value)

-- whether a triple is held, or fewer are held than may be
abbrev pub has_room : List Triple → Triple → Bool
has_room triples t = not (not (is_held triples t) && nat_le 262144 (length triples))

abbrev pub with_triple_in_room : List Triple → Triple → List Triple
with_triple_in_room triples t = cond (has_room triples t) (with_triple triples t) triples
