-- The words that may name nodes.
use Rattle.std.specs.Prelude.{ℕ, Bool, not, ◌&&◌, ◌||◌, nat_eq, nat_lt, List, [], ◌∷◌}
use Rattle.std.specs.List.{list_any, list_all}
use Rattle.iri_resolve.specs.Splitting.{has_scheme}
use Rattle.inference_reports.specs.Explained.{is_blank_name}

-- a byte that an IRI may have unescaped, or that is part of such a character
abbrev pub is_iri_byte : ℕ → Bool
is_iri_byte b = nat_lt 32 b && not (list_any (nat_eq b) (60 ∷ 62 ∷ 34 ∷ 123 ∷ 125 ∷ 124 ∷ 94 ∷ 96 ∷ 92 ∷ []))

abbrev pub is_iri : List ℕ → Bool
is_iri word = list_all is_iri_byte word && has_scheme word

-- a blank node by its number, or an IRI
abbrev pub is_node_name : List ℕ → Bool
is_node_name word = is_blank_name word || is_iri word
