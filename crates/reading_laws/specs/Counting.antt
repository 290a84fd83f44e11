-- The names and triples of what is told, numbered by first coming, and the first triple that passes a limit.
use Rattle.std.specs.Prelude.{ℕ, ◌≤◌, ◌<◌, ◌≡◌, ◌⊎◌, List, [], ◌∷◌, ◌++◌, length}
use Rattle.rdf_terms.specs.declared.terms.Code.{Code}
use Rattle.rdf_terms.specs.declared.terms.Code.TheVariants.{L4, L5}
use Rattle.rdf_terms.specs.declared.terms.Term.{Term}
use Rattle.rdf_terms.specs.declared.terms.Term.TheVariants as term
use Rattle.rdf_terms.specs.declared.triples.Records.{Records}
use Rattle.rdf_terms.specs.Naming.{NameLists, iri_number, with_iri, literal_number, with_literal, name_count}
use Rattle.rdf_terms.specs.Terms.{with_triple}
use Rattle.reading_laws.specs.Telling.{Thing, Statement}
use Rattle.reading_laws.specs.Telling.Thing.{Iri, Blank, Lit}

-- the names with a thing, and its number among them
abbrev pub naming : NameLists → Thing → NameLists
naming names (Iri text) = with_iri names text
naming names (Blank n) = names
naming names (Lit v) = with_literal names v

abbrev pub number : NameLists → Thing → Term
number names (Iri text) = term.Iri (iri_number names text)
number names (Blank n) = term.Blank n
number names (Lit v) = term.Lit (literal_number names v)

-- subject, predicate and object in this order
abbrev pub names_with : NameLists → Statement → NameLists
names_with names x = naming (naming (naming names x.s) (Iri x.p)) x.o

-- A triple whose three terms are new goes last.
abbrev pub with_statement : Records → Statement → Records
with_statement r x = record {
  names = names_with r.names x;
  triples = with_triple r.triples (record { s = number (names_with r.names x) x.s; p = number (names_with r.names x) (Iri x.p); o = number (names_with r.names x) x.o; at = x.at });
}

abbrev pub no_records : Records
no_records = record { names = record { iris = []; literals = [] }; triples = [] }

abbrev pub all_with : Records → List Statement → Records
all_with r [] = r
all_with r (x ∷ xs) = all_with (with_statement r x) xs

-- the names and triples of statements
abbrev pub records : List Statement → Records
records xs = all_with no_records xs

-- at most 262,144 names and as many triples
abbrev pub IsSmall : Records → Type 0
IsSmall r = (name_count r.names ≤ 262144) × (length r.triples ≤ 262144)

abbrev pub Passes : Records → Code → Type 0
Passes r code = ((code ≡ L5) × (262144 < name_count r.names)) ⊎ ((code ≡ L4) × (name_count r.names ≤ 262144) × (262144 < length r.triples))

-- The first statement with which a limit is passed.
abbrev pub IsLimit : List Statement → Code → ℕ → Type 0
IsLimit xs code at = (done : List Statement) × (x : Statement) × (rest : List Statement) × (xs ≡ done ++ x ∷ rest) × IsSmall (records done) × Passes (records (done ++ x ∷ [])) code × (at ≡ x.at)
