-- The tokens of bytes, in the words of the standards.
use Rattle.std.specs.Prelude.{ℕ, ◌≡◌, List}
use Rattle.std.specs.Str.{IsUtf8}
use Rattle.rdf_chars.specs.Utf8.{IsChars, IsUtf8Length}
use Rattle.token_scanner.specs.declared.place.Place.TheVariants.{Beginning}
use Rattle.turtle_tokens.specs.Scanning.{Items}
use Rattle.turtle_tokens.specs.Scanning.{AreItems}
use Rattle.turtle_lexer.specs.Streams.{Ahead, stream}
use Rattle.turtle_lexer.specs.Streams.Ahead.{NotUtf8, Tokens}

-- The bytes are no UTF-8, and the place is the length of their longest front that is; or they are the UTF-8 of characters, and these are their tokens with their values.
abbrev pub HasTokens : List ℕ → Ahead → Type 0
HasTokens bytes (NotUtf8 place) = (IsUtf8 bytes → ⊥) × IsUtf8Length bytes place
HasTokens bytes (Tokens s) = (chars : List ℕ) × (is : Items) × IsChars chars bytes × AreItems Beginning chars 0 is × (s ≡ stream is)
