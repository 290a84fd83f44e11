-- A lexer by what it keeps, and what it says.
use Rattle.std.specs.Prelude.{ℕ, ◌≡◌, ◌+◌, ◌-◌, ◌*◌, length, ◌≤◌, ◌<◌, ◌^◌, ◌⊎◌, Bool, true, false, List, [], Option, None, Some, Ok, ⊤}
use Rattle.text_patterns.specs.Machines.{IsOpen}
use Rattle.std.specs.Str.{IsUtf8}
use Rattle.rdf_chars.specs.Utf8.{BeginsUtf8, IsUtf8Length}
use Rattle.rdf_chars.specs.Steps.{Fed, Stands, ended}
use Rattle.rdf_chars.specs.Decoding.{decoded}
use Rattle.rdf_chars.specs.Decoding.Decoded.{BadAt}
use Rattle.rdf_terms.specs.declared.terms.Code.{Code}
use Rattle.rdf_terms.specs.declared.terms.Code.TheVariants.{U1, G1, L2}
use Rattle.rdf_terms.specs.declared.terms.Refusal.{Refusal}
use Rattle.turtle_tokens.specs.Machine.{turtle}
use Rattle.token_scanner.specs.Widths.{width}
use Rattle.turtle_tokens.specs.Scanning.{Items, items_of}
use Rattle.token_scanner.specs.Items.{Kept}
use Rattle.turtle_lexer.specs.declared.token.Token.{Token}
use Rattle.turtle_lexer.specs.declared.token.Next.{Next}
use Rattle.turtle_lexer.specs.declared.token.Next.TheVariants as next
use Rattle.turtle_lexer.specs.Streams.{Stream, stream, Ahead, by_chars}
use Rattle.turtle_lexer.specs.Streams.Stream.{Ends, NoToken, Overlong, Given}
use Rattle.turtle_lexer.specs.Streams.Ahead.{NotUtf8, Tokens}

-- `kept` is what was fed and not given, but for a character that has begun, of which so many bytes came.
pub record Lexing : Type 0 where
  pub fed : Fed
  pub kept : Kept
  pub begun : ℕ
  pub bad : Option ℕ
  pub finished : Bool
  pub refusal : Option Refusal
  pub starved : Bool

-- What is said of the bytes fed: nothing where some UTF-8 begins with them, at the end where they are UTF-8; else the length of their longest front that is.
abbrev pub IsBad : Bool → List ℕ → Option ℕ → Type 0
IsBad false bytes None = BeginsUtf8 bytes
IsBad true bytes None = IsUtf8 bytes
IsBad false bytes (Some at) = (BeginsUtf8 bytes → ⊥) × IsUtf8Length bytes at
IsBad true bytes (Some at) = (IsUtf8 bytes → ⊥) × IsUtf8Length bytes at

-- and what is decoded from here on
abbrev pub Knows : Option ℕ → Bool → Fed → Type 0
Knows None finished v = finished ≡ true → ended v ≡ Ok tt
Knows (Some at) finished v = (more : List ℕ) → (finished ≡ true → more ≡ []) → decoded v more ≡ BadAt at

-- So many bytes at the end are of a character that has begun: the longest front that is UTF-8 lacks them.
abbrev pub IsBegun : Option ℕ → List ℕ → ℕ → Type 0
IsBegun None bytes n = (n ≤ length bytes) × IsUtf8Length bytes (length bytes - n)
IsBegun (Some at) bytes n = ⊤

-- the bytes were fed
abbrev pub IsFed : Lexing → List ℕ → Type 0
IsFed l bytes = Stands l.fed bytes × IsBad l.finished bytes l.bad × IsBegun l.bad bytes l.begun

abbrev pub by_code : Code → ℕ → Stream
by_code L2 at = Overlong at
by_code _ at = NoToken at

abbrev pub stopped : Option Refusal → Stream → Stream
stopped None s = s
stopped (Some r) s = by_code r.code r.at

-- What is ahead of a lexer where these bytes are still fed.
abbrev pub ahead : Lexing → List ℕ → Ahead
ahead l more = by_chars (decoded l.fed more) (λ chars. stopped l.refusal (stream (items_of l.kept chars)))

-- a token that is given before the rest
abbrev pub given : Token → Ahead → Ahead
given t (NotUtf8 at) = NotUtf8 at
given t (Tokens s) = Tokens (Given t.kind t.text t.cut t.from t.to s)

abbrev pub IsStop : Refusal → Ahead → Type 0
IsStop r (NotUtf8 at) = ⊤
IsStop r (Tokens s) = ((r.code ≡ G1) × (s ≡ NoToken r.at)) ⊎ ((r.code ≡ L2) × (s ≡ Overlong r.at))

abbrev pub Unless : Option ℕ → Refusal → Type 0 → (ℕ → Type 0) → Type 0
Unless None r P Q = P
Unless (Some at) r P Q = (r ≡ record { code = U1; at = at }) × Q at

abbrev pub Still : Option Refusal → Refusal → Type 0 → Type 0
Still None r P = P
Still (Some q) r P = r ≡ q

-- whatever bytes are still fed; none where the text is finished
abbrev pub Whatever : Bool → (List ℕ → Type 0) → Type 0
Whatever finished P = (more : List ℕ) → (finished ≡ true → more ≡ []) → P more

-- What is said of a lexer: a refusal that was said is said again; where the bytes are no UTF-8, that comes before all else.
abbrev pub Says : Lexing → Lexing → Next → Type 0
Says old new (next.Token t) = (old.refusal ≡ None) × (new.refusal ≡ None) × (old.bad ≡ None)
    × Whatever old.finished (λ more. ahead old more ≡ given t (ahead new more))
Says old new next.More = (old.refusal ≡ None) × (new.refusal ≡ None) × (old.bad ≡ None) × (old.finished ≡ false)
    × IsOpen turtle new.kept.chars × (width new.kept.chars ≤ 65536) × ((more : List ℕ) → ahead old more ≡ ahead new more)
Says old new next.End = (old.refusal ≡ None) × (new.refusal ≡ None) × (old.finished ≡ true) × (new.kept.chars ≡ []) × (ahead old [] ≡ Tokens (Ends new.kept.at)) × (ahead new [] ≡ Tokens (Ends new.kept.at))
Says old new (next.Refused r) = (new.refusal ≡ Some r) × (new.kept.chars ≡ [])
    × Still old.refusal r (Unless (old.bad) r (Whatever old.finished (λ more. IsStop r (ahead old more))) (λ at. Whatever old.finished (λ more. ahead old more ≡ NotUtf8 at)))

-- the place of the open token is within four bytes for each that was fed
abbrev pub HasRoom : Kept → Fed → Type 0
HasRoom k v = (k.at + width k.chars ≤ 4 * v.count) × (v.count < 2 ^ 32)

-- after a refusal nothing is kept
abbrev pub IsEmptied : Option Refusal → Kept → Type 0
IsEmptied None k = ⊤
IsEmptied (Some r) k = k.chars ≡ []

-- the first of these items is the token, and the others follow
abbrev pub IsGiven : Token → Items → Items → Type 0
IsGiven t all rest = stream all ≡ Given t.kind t.text t.cut t.from t.to (stream rest)
