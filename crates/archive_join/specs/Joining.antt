-- Several files as one: their distinct triples in order, with blank nodes kept apart and places counted through.
use Rattle.std.specs.Prelude.{ℕ, ◌+◌, max, map, List, [], ◌∷◌}
use Rattle.crm_outside.specs.Causes.{counted}
use Rattle.rdf_terms.specs.declared.terms.Term.{Term}
use Rattle.rdf_terms.specs.declared.terms.Term.TheVariants as term
use Rattle.rdf_terms.specs.declared.terms.Triple.{Triple}
use Rattle.rdf_terms.specs.declared.triples.Records.{Records}
use Rattle.joined_names.specs.Values.{ValueTriple, moved, value_triples, with_all}

-- what was joined: the records, the bytes and the blank nodes of all files, and how many these are
pub record Joined : Type 0 where
  pub records : Records
  pub length : ℕ
  pub blanks : ℕ
  pub count : ℕ

abbrev pub nothing : Joined
nothing = record { records = record { names = record { iris = []; literals = [] }; triples = [] }; length = 0; blanks = 0; count = 0 }

-- the first number above those of the blank nodes: how many these are, since those of a file are numbered from 0
abbrev pub behind_term : Term → ℕ
behind_term (term.Iri n) = 0
behind_term (term.Blank n) = n + 1
behind_term (term.Lit n) = 0

abbrev pub behind_triple : Triple → ℕ
behind_triple t = max (max (behind_term t.s) (behind_term t.p)) (behind_term t.o)

unfoldable pub blank_count : List Triple → ℕ
blank_count [] = 0
blank_count (t ∷ ts) = max (behind_triple t) (blank_count ts)

-- what a file says, behind so many blank nodes and bytes
abbrev pub triples_behind : ℕ → ℕ → Records → List ValueTriple
triples_behind blanks length r = map (moved blanks length) (value_triples r.names r.triples)

-- with the records of a file more, which has so many bytes
abbrev pub with_records : Joined → Records → ℕ → Joined
with_records j r length = record {
  records = with_all j.records (triples_behind j.blanks j.length r);
  length = j.length + length;
  blanks = j.blanks + blank_count r.triples;
  count = counted j.count;
}
