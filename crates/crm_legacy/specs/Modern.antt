-- The triples of records with the legacy ones replaced.
use Rattle.std.specs.Prelude.{ℕ, List, [], ◌∷◌, Option, Some, None, Result, Ok, Err, if◌then◌else◌, nat_lt, length, map, slice_get, unwrap_or, flat_map}
use Rattle.rdf_terms.specs.declared.terms.Code.TheVariants.{L4, L5}
use Rattle.rdf_terms.specs.declared.terms.Literal.{Literal}
use Rattle.rdf_terms.specs.declared.terms.Refusal.{Refusal}
use Rattle.rdf_terms.specs.declared.terms.Term.{Term}
use Rattle.rdf_terms.specs.declared.terms.Term.TheVariants.{Iri, Blank, Lit}
use Rattle.rdf_terms.specs.declared.terms.Triple.{Triple}
use Rattle.rdf_terms.specs.declared.triples.Records.{Records}
use Rattle.rdf_terms.specs.Naming.{NameLists, with_iri, iri_number, with_literal, literal_number, name_count}
use Rattle.rdf_terms.specs.Terms.{with_triple}
use Rattle.crm_legacy.specs.declared.legacy.Legacy.{Legacy}
use Rattle.crm_legacy.specs.declared.legacy.Direction.{Direction}
use Rattle.crm_legacy.specs.Legacies.{legacy_of, replacements, direction_iri}

-- a triple whose predicate is given as its IRI
pub record Statement : Type 0 where
  pub s : Term
  pub p : List ℕ
  pub o : Term
  pub at : ℕ

-- the IRI of a term; a number that no name has stands for the empty one
abbrev pub iri_text : NameLists → Term → List ℕ
iri_text names (Iri n) = unwrap_or (slice_get names.iris n) []
iri_text names (Blank n) = []
iri_text names (Lit n) = []

abbrev pub with_predicate : Triple → List ℕ → Statement
with_predicate t p = record { s = t.s; p = p; o = t.o; at = t.at }

-- what a legacy triple says by primitives, with the same ends and place
abbrev pub said_legacy : Triple → Legacy → List Statement
said_legacy t l = map (λ d. with_predicate t (direction_iri l.inverse d)) (replacements l.property)

abbrev pub said_by : Triple → List ℕ → Option Legacy → List Statement
said_by t iri None = with_predicate t iri ∷ []
said_by t iri (Some l) = said_legacy t l

abbrev pub said : NameLists → Triple → List Statement
said names t = said_by t (iri_text names t.p) (legacy_of (iri_text names t.p))

-- the literal of a number; a number that no name has stands for the empty one
abbrev pub no_literal : Literal
no_literal = record { lexical = []; datatype = []; tag = [] }

abbrev pub literal_at : NameLists → ℕ → Literal
literal_at names n = unwrap_or (slice_get names.literals n) no_literal

-- names with the name of a term of other names, and the term's number among them; a blank node keeps its number
abbrev pub with_name : NameLists → NameLists → Term → NameLists
with_name old names (Iri n) = with_iri names (iri_text old (Iri n))
with_name old names (Blank n) = names
with_name old names (Lit n) = with_literal names (literal_at old n)

abbrev pub renamed : NameLists → NameLists → Term → Term
renamed old names (Iri n) = Iri (iri_number names (iri_text old (Iri n)))
renamed old names (Blank n) = Blank n
renamed old names (Lit n) = Lit (literal_number names (literal_at old n))

-- names with those of a statement: of its subject, its predicate and its object
abbrev pub with_names : NameLists → NameLists → Statement → NameLists
with_names old names x = with_name old (with_iri (with_name old names x.s) x.p) x.o

-- the statement as a triple by these names
abbrev pub as_triple : NameLists → NameLists → Statement → Triple
as_triple old names x = record {
  s = renamed old names x.s;
  p = Iri (iri_number (with_name old names x.s) x.p);
  o = renamed old (with_iri (with_name old names x.s) x.p) x.o;
  at = x.at;
}

-- records with a statement more, unless its triple is there; L5 where that makes too many names, L4 where too many triples
abbrev pub with_statement : NameLists → Records → Statement → Result Records Refusal
with_statement old r x =
    if nat_lt 262144 (name_count (with_names old r.names x)) then Err (record { code = L5; at = x.at }) else
    if nat_lt 262144 (length (with_triple r.triples (as_triple old r.names x))) then Err (record { code = L4; at = x.at }) else
    Ok (record { names = with_names old r.names x; triples = with_triple r.triples (as_triple old r.names x) })

abbrev pub next_by : (Records → Result Records Refusal) → Result Records Refusal → Result Records Refusal
next_by f (Ok r) = f r
next_by f (Err e) = Err e

-- one statement after the other, up to the first that is refused
abbrev pub with_statements : NameLists → List Statement → Records → Result Records Refusal
with_statements old [] r = Ok r
with_statements old (x ∷ xs) r = next_by (with_statements old xs) (with_statement old r x)

abbrev pub no_records : Records
no_records = record { names = record { iris = []; literals = [] }; triples = [] }

-- the records in today's properties: each legacy triple replaced where it stands, and repeated triples dropped
abbrev pub modern_of : Records → Result Records Refusal
modern_of r = with_statements r.names (flat_map (said r.names) r.triples) no_records
