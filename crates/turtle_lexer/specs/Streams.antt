-- The tokens of a text with their values, and what is ahead of a lexer.
use Rattle.std.specs.Prelude.{ℕ, ◌+◌, List}
use Rattle.rdf_chars.specs.Steps as steps
use Rattle.rdf_chars.specs.Decoding.{Decoded, decoded}
use Rattle.rdf_chars.specs.Decoding.Decoded.{Chars, BadAt}
use Rattle.turtle_tokens.specs.declared.kinds.TokenKind.{TokenKind}
use Rattle.token_scanner.specs.declared.place.Place.TheVariants.{Beginning}
use Rattle.token_scanner.specs.Widths.{width}
use Rattle.turtle_tokens.specs.Scanning.{Items, items}
use Rattle.token_scanner.specs.Items.Items.{Stop, Bad, TooLong, Item}
use Rattle.turtle_lexer.specs.Values.{value_text, prefix_width}

-- A token has its kind, its value in bytes, the length of its prefix in bytes, and the byte offsets at which it begins and ends.
pub data Stream : Type 0 where
  Ends : ℕ → Stream
  NoToken : ℕ → Stream
  Overlong : ℕ → Stream
  Given : TokenKind → List ℕ → ℕ → ℕ → ℕ → Stream → Stream

abbrev pub stream : Items → Stream
stream (Stop end) = Ends end
stream (Bad at) = NoToken at
stream (TooLong at) = Overlong at
stream (Item kind chars at rest) = Given kind (value_text kind chars) (prefix_width kind chars) at (at + width chars) (stream rest)

-- The bytes are no UTF-8 from a place on, or they have these tokens.
pub data Ahead : Type 0 where
  NotUtf8 : ℕ → Ahead
  Tokens : Stream → Ahead

abbrev pub by_chars : Decoded → (List ℕ → Stream) → Ahead
by_chars (Chars chars) f = Tokens (f chars)
by_chars (BadAt place) f = NotUtf8 place

-- the tokens of a text by its characters
abbrev pub text_stream : List ℕ → Stream
text_stream chars = stream (items Beginning 0 chars 0)

-- The tokens of a text by its bytes.
abbrev pub tokens : List ℕ → Ahead
tokens bytes = by_chars (decoded steps.start bytes) text_stream
