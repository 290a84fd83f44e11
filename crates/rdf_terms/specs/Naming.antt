-- The names of a document: IRIs and literals in the order of their first coming, each list numbered from 0.
use Rattle.std.specs.Prelude.{◌+◌, ◌<◌, ◌^◌, ◌&&◌, ℕ, Bool, List, [], ◌∷◌, ◌++◌, length, if◌then◌else◌}
use Rattle.std.specs.List.{list_any, position_or_len, IsDistinct, All}
use Rattle.std.specs.Str.{bytes_eq}
use Rattle.rdf_terms.specs.declared.terms.Literal.{Literal}

-- the IRIs by their bytes, and the literals by the bytes of their three texts
pub record NameLists : Type 0 where
  pub iris : List (List ℕ)
  pub literals : List Literal

-- whether two literals have the same three texts
abbrev pub same_literal : Literal → Literal → Bool
same_literal a b = bytes_eq a.lexical b.lexical && (bytes_eq a.datatype b.datatype && bytes_eq a.tag b.tag)

-- how many names there are
abbrev pub name_count : NameLists → ℕ
name_count names = length names.iris + length names.literals

-- whether an IRI is among the names, its number, which is the next one where it is new, and the names with it
abbrev pub has_iri : NameLists → List ℕ → Bool
has_iri names text = list_any (bytes_eq text) names.iris

abbrev pub iri_number : NameLists → List ℕ → ℕ
iri_number names text = position_or_len (bytes_eq text) names.iris

abbrev pub with_iri : NameLists → List ℕ → NameLists
with_iri names text = record names { iris = if has_iri names text then names.iris else names.iris ++ text ∷ [] }

-- the same of a literal
abbrev pub has_literal : NameLists → Literal → Bool
has_literal names value = list_any (same_literal value) names.literals

abbrev pub literal_number : NameLists → Literal → ℕ
literal_number names value = position_or_len (same_literal value) names.literals

abbrev pub with_literal : NameLists → Literal → NameLists
with_literal names value = record names { literals = if has_literal names value then names.literals else names.literals ++ value ∷ [] }

-- no IRI stands twice, and no literal
pub record AreDistinct (names : NameLists) : Type 0 where
  pub iris : IsDistinct bytes_eq names.iris
  pub literals : IsDistinct same_literal names.literals

-- each lexical form has fewer than 2 ^ 32 bytes
abbrev pub AreShort : List Literal → Type 0
AreShort literals = All (λ l. length l.lexical < 2 ^ 32) literals
