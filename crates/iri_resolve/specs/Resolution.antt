-- How a reference without scheme is resolved against a base, as RFC 3986 has it.
use Rattle.std.specs.Prelude.{ℕ, ◌&&◌, List, [], ◌∷◌, ◌++◌, take, Bool, true, false, cond, Option, None, Some, get_or}
use Rattle.std.specs.List.{slice_range}
use Rattle.iri_resolve.specs.declared.splitting.Span.{Span}
use Rattle.iri_resolve.specs.declared.splitting.Parts.{Parts}
use Rattle.iri_resolve.specs.Splitting.{is_there, split}
use Rattle.iri_resolve.specs.Dots.{through_last_slash, without_dots, is_slash}

-- the parts of a reference by their bytes
pub record Pieces : Type 0 where
  pub scheme : Option (List ℕ)
  pub authority : Option (List ℕ)
  pub path : List ℕ
  pub query : Option (List ℕ)
  pub fragment : Option (List ℕ)

abbrev pub piece : List ℕ → Span → List ℕ
piece text span = slice_range text span.from span.to

abbrev pub piece_of : List ℕ → Option Span → Option (List ℕ)
piece_of text None = None
piece_of text (Some span) = Some (piece text span)

abbrev pub pieces_by : List ℕ → Parts → Pieces
pieces_by text parts = record {
  scheme = piece_of text parts.scheme;
  authority = piece_of text parts.authority;
  path = piece text parts.path;
  query = piece_of text parts.query;
  fragment = piece_of text parts.fragment;
}

abbrev pub pieces : List ℕ → Pieces
pieces text = pieces_by text (split text)

-- a part with its marks, if it is there
abbrev pub marked : List ℕ → Option (List ℕ) → List ℕ → List ℕ
marked before None after = []
marked before (Some text) after = before ++ (text ++ after)

abbrev pub colon : List ℕ
colon = 0x3A ∷ []

abbrev pub slashes : List ℕ
slashes = 0x2F ∷ 0x2F ∷ []

abbrev pub question : List ℕ
question = 0x3F ∷ []

abbrev pub number_sign : List ℕ
number_sign = 0x23 ∷ []

-- The text that is put together from the parts that are there.
abbrev pub recomposed : Pieces → List ℕ
recomposed p = marked [] p.scheme colon ++ (marked slashes p.authority [] ++ (p.path ++ (marked question p.query [] ++ marked number_sign p.fragment [])))

abbrev pub is_empty : List ℕ → Bool
is_empty [] = true
is_empty (b ∷ text) = false

abbrev pub or_else : {A : Type 0} → Option A → Option A → Option A
or_else None y = y
or_else (Some x) y = Some x

-- `/` and the reference's path where the base has an authority and an empty path; else the base's path up to its last slash, and the reference's
abbrev pub merged : Pieces → List ℕ → List ℕ
merged base path = cond (is_there base.authority && is_empty base.path) (0x2F ∷ path) (take (through_last_slash base.path) base.path ++ path)

abbrev pub target_path : Pieces → Pieces → List ℕ
target_path base r = cond (is_there r.authority) (without_dots r.path)
    (cond (is_empty r.path) base.path (cond (is_slash (get_or r.path 0 0)) (without_dots r.path) (without_dots (merged base r.path))))

abbrev pub target_query : Pieces → Pieces → Option (List ℕ)
target_query base r = cond (is_there r.authority) r.query (cond (is_empty r.path) (or_else r.query base.query) r.query)

abbrev pub target : Pieces → Pieces → Pieces
target base r = record {
  scheme = base.scheme;
  authority = or_else r.authority base.authority;
  path = target_path base r;
  query = target_query base r;
  fragment = r.fragment;
}

-- The reference, which has no scheme, against the base.
abbrev pub resolved : List ℕ → List ℕ → List ℕ
resolved base reference = recomposed (target (pieces base) (pieces reference))
