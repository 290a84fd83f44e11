-- What is said of bytes is right.
use Rattle.std.proofs.Common.{ℕ, List, [], ◌∷◌, ◌≡◌, ◌<◌, arith, inl, inr, refl}
use Rattle.std.proofs.lemmas.Bool.{and_parts}
use Rattle.std.proofs.Math.Utf8.{scalar_cases}
use Rattle.std.specs.Prelude.{true}
use lib.Utf8.{scalar, scalars}
use Rattle.rdf_chars.specs.Steps as steps
use Rattle.rdf_chars.specs.Decoding.{Decoded, decoded, AreBytes, Decodes}
use Rattle.rdf_chars.specs.Decoding.Decoded.{Chars, BadAt}
use Rattle.rdf_chars.proofs.Whole.{decoded_right}
use Rattle.token_scanner.specs.declared.place.Place.TheVariants.{Beginning}
use Rattle.turtle_tokens.specs.Scanning.{scanner, items}
use Rattle.token_scanner.specs.Texts.{AreChars}
use Rattle.token_scanner.proofs.Saying.{texts_say}
use Rattle.turtle_tokens.specs.ScannerLaws.{right}
use Rattle.turtle_lexer.specs.Streams.{by_chars, text_stream, tokens}
use Rattle.turtle_lexer.specs.Texts.{HasTokens}

scalar_small : (c : ℕ) → scalar c ≡ true → c < 0x110000
scalar_small c h = elim (scalar_cases c h) [ inl low ↦ omega (arith, low) | inr high ↦ high.1 ]

are_chars : (chars : List ℕ) → scalars chars ≡ true → AreChars chars
are_chars [] h = tt
are_chars (c ∷ chars) h = let both = and_parts (scalar c) (scalars chars) h in (scalar_small c both.0, are_chars chars both.1)

right_of : (bytes : List ℕ) (d : Decoded) → Decodes bytes d → HasTokens bytes (by_chars d text_stream)
right_of bytes (Chars chars) h = (chars, items Beginning 0 chars 0, h, texts_say scanner right Beginning chars 0 (are_chars chars h.0), refl)
right_of bytes (BadAt place) h = h

pub tokens_right : (bytes : List ℕ) → AreBytes bytes → HasTokens bytes (tokens bytes)
tokens_right bytes ok = right_of bytes (decoded steps.start bytes) (decoded_right bytes ok)
