-- The parts of a reference, as RFC 3986 splits it.
use Rattle.std.specs.Prelude.{ℕ, ◌≤◌, ⊤, ◌+◌, ◌==◌, ◌&&◌, ◌||◌, List, [], ◌∷◌, length, drop, Bool, true, false, not, cond, nat_eq, Option, None, Some, get_or}
use Rattle.std.specs.List.{prefix_len, list_any, starts_with}
use Rattle.std.specs.Char.{is_ascii_alphabetic, is_ascii_alphanumeric}
use Rattle.iri_resolve.specs.declared.splitting.Span.{Span}
use Rattle.iri_resolve.specs.declared.splitting.Parts.{Parts}

-- letters, digits, `+`, `-` and `.`
abbrev pub is_scheme_byte : ℕ → Bool
is_scheme_byte b = is_ascii_alphanumeric b || (b == 0x2B || (b == 0x2D || b == 0x2E))

-- The length of the scheme: a letter, then letters, digits, `+`, `-` and `.`, and behind it a colon.
abbrev pub scheme_length : List ℕ → Option ℕ
scheme_length text = cond (is_ascii_alphabetic (get_or text 0 0) && get_or text (prefix_len is_scheme_byte text) 0 == 0x3A) (Some (prefix_len is_scheme_byte text)) None

abbrev pub is_there : {A : Type 0} → Option A → Bool
is_there None = false
is_there (Some x) = true

abbrev pub has_scheme : List ℕ → Bool
has_scheme text = is_there (scheme_length text)

-- The place of the first of these bytes from a place on, or the end of the text.
abbrev pub goes_on : List ℕ → ℕ → Bool
goes_on ends b = not (list_any (λ e. nat_eq e b) ends)

abbrev pub until : List ℕ → List ℕ → ℕ → ℕ
until ends text from = from + prefix_len (goes_on ends) (drop from text)

-- `/?#`, `?#` and `#`
abbrev pub authority_ends : List ℕ
authority_ends = 0x2F ∷ 0x3F ∷ 0x23 ∷ []

abbrev pub path_ends : List ℕ
path_ends = 0x3F ∷ 0x23 ∷ []

abbrev pub query_ends : List ℕ
query_ends = 0x23 ∷ []

abbrev pub two_slashes : List ℕ
two_slashes = 0x2F ∷ 0x2F ∷ []

abbrev pub scheme_span : Option ℕ → Option Span
scheme_span None = None
scheme_span (Some n) = Some (record { from = 0; to = n })

abbrev pub behind_scheme : Option ℕ → ℕ
behind_scheme None = 0
behind_scheme (Some n) = n + 1

-- the place behind a part that ends there, or `at` where there is no such part
abbrev pub behind : Option Span → ℕ → ℕ
behind None at = at
behind (Some span) at = span.to

-- behind two slashes, up to the next `/`, `?` or `#`
abbrev pub authority_span : List ℕ → ℕ → Option Span
authority_span text at = cond (starts_with nat_eq (drop at text) two_slashes) (Some (record { from = at + 2; to = until authority_ends text (at + 2) })) None

-- up to the next `?` or `#`
abbrev pub path_span : List ℕ → ℕ → Span
path_span text at = record { from = at; to = until path_ends text at }

-- behind a `?`, up to the next `#`
abbrev pub query_span : List ℕ → ℕ → Option Span
query_span text at = cond (get_or text at 0 == 0x3F) (Some (record { from = at + 1; to = until query_ends text (at + 1) })) None

-- behind a `#`
abbrev pub fragment_span : List ℕ → ℕ → Option Span
fragment_span text at = cond (get_or text at 0 == 0x23) (Some (record { from = at + 1; to = length text })) None

abbrev pub split_by : List ℕ → Option ℕ → Option Span → Span → Option Span → Parts
split_by text scheme authority path query =
    record { scheme = scheme_span scheme; authority = authority; path = path; query = query; fragment = fragment_span text (behind query path.to) }

abbrev pub split_behind : List ℕ → Option ℕ → Option Span → Span → Parts
split_behind text scheme authority path = split_by text scheme authority path (query_span text path.to)

abbrev pub split_from : List ℕ → Option ℕ → Option Span → Parts
split_from text scheme authority = split_behind text scheme authority (path_span text (behind authority (behind_scheme scheme)))

-- The parts of the text by their places.
abbrev pub split : List ℕ → Parts
split text = split_from text (scheme_length text) (authority_span text (behind_scheme (scheme_length text)))

-- The part lies in the text.
abbrev pub IsWithin : List ℕ → Span → Type 0
IsWithin text span = (span.from ≤ span.to) × (span.to ≤ length text)

abbrev pub IsWithinIfThere : List ℕ → Option Span → Type 0
IsWithinIfThere text None = ⊤
IsWithinIfThere text (Some span) = IsWithin text span

pub record AreWithin (text : List ℕ) (parts : Parts) : Type 0 where
  pub scheme : IsWithinIfThere text parts.scheme
  pub authority : IsWithinIfThere text parts.authority
  pub path : IsWithin text parts.path
  pub query : IsWithinIfThere text parts.query
  pub fragment : IsWithinIfThere text parts.fragment
