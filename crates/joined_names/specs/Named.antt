-- The names of a file as they are lent, and the terms that they have among the joined names.
use Rattle.std.specs.Prelude.{ℕ, ◌≡◌, ◌≤◌, ◌<◌, ◌^◌, true, List, length, Some, slice_get, ⊤}
use Rattle.rdf_terms.specs.declared.terms.Literal.{Literal}
use Rattle.rdf_terms.specs.declared.terms.Term.{Term}
use Rattle.rdf_terms.specs.declared.terms.Term.TheVariants as term
use Rattle.rdf_terms.specs.Naming.{NameLists, has_iri, iri_number, has_literal, literal_number}
use Rattle.joined_names.specs.Values.{Value, ValueTriple}
use Rattle.joined_names.specs.declared.named.Named.{Named}
use Rattle.joined_names.specs.declared.named.Named.TheVariants.{Iri, Blank, Lit}
use Rattle.joined_names.specs.declared.named.NamedTriple.{NamedTriple}
use Rattle.joined_names.specs.declared.table.NameTable.{NameTable}

abbrev pub value_of : Named → Value
value_of (Iri n text) = Value.Iri text.now
value_of (Blank n) = Value.Blank n
value_of (Lit n literal) = Value.Lit literal.now

-- it has the name of its number
abbrev pub IsNamed : NameLists → Named → Type 0
IsNamed names (Iri n text) = slice_get names.iris n ≡ Some text.now
IsNamed names (Blank n) = ⊤
IsNamed names (Lit n literal) = (slice_get names.literals n ≡ Some literal.now) × (length literal.now.lexical < 2 ^ 32)

abbrev pub values_of : ℕ → NamedTriple → ValueTriple
values_of at x = record { s = value_of x.s; p = value_of x.p; o = value_of x.o; at = at }

abbrev pub AreNamed : NameLists → NamedTriple → Type 0
AreNamed names x = IsNamed names x.s × IsNamed names x.p × IsNamed names x.o

-- Each term that came is that of its name among the joined names.
pub record IsTable (file joined : NameLists) (table : NameTable) : Type 0 where
  pub iris : (k : ℕ) (t : Term) (text : List ℕ) → slice_get table.iris.items k ≡ Some (Some t) → slice_get file.iris k ≡ Some text →
      (has_iri joined text ≡ true) × (t ≡ term.Iri (iri_number joined text))
  pub literals : (k : ℕ) (t : Term) (literal : Literal) → slice_get table.literals.items k ≡ Some (Some t) → slice_get file.literals k ≡ Some literal →
      (has_literal joined literal ≡ true) × (t ≡ term.Lit (literal_number joined literal))
  pub iri_room : length file.iris ≤ length table.iris.items
  pub literal_room : length file.literals ≤ length table.literals.items
