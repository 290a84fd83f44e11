-- The characters of bytes, or the place from which they are no UTF-8.
use Rattle.std.specs.Prelude.{ℕ, ◌<◌, List, [], ◌∷◌, Option, None, Some, Result, Ok, Err}
use Rattle.std.specs.Str.{IsUtf8}
use Rattle.rdf_chars.specs.Utf8.{IsChars, IsUtf8Length}
use Rattle.rdf_chars.specs.Steps.{Fed, fed, said, ended}
use Rattle.rdf_chars.specs.declared.utf8.BadUtf8.{BadUtf8}

pub data Decoded : Type 0 where
  Chars : List ℕ → Decoded
  BadAt : ℕ → Decoded

abbrev pub before : ℕ → Decoded → Decoded
before c (Chars chars) = Chars (c ∷ chars)
before c (BadAt place) = BadAt place

abbrev pub before_all : List ℕ → Decoded → Decoded
before_all [] d = d
before_all (c ∷ chars) d = before c (before_all chars d)

abbrev pub by_said : Result (Option ℕ) BadUtf8 → Decoded → Decoded
by_said (Ok None) d = d
by_said (Ok (Some c)) d = before c d
by_said (Err e) d = BadAt e.at

abbrev pub by_ended : Result Unit BadUtf8 → Decoded
by_ended (Ok x) = Chars []
by_ended (Err e) = BadAt e.at

-- what a reader says of these bytes, behind what it is fed
abbrev pub decoded : Fed → List ℕ → Decoded
decoded v [] = by_ended (ended v)
decoded v (b ∷ bytes) = by_said (said v b) (decoded (fed v b) bytes)

abbrev pub AreBytes : List ℕ → Type 0
AreBytes [] = Unit {0}
AreBytes (b ∷ bytes) = (b < 256) × AreBytes bytes

-- The characters have these encodings; or the bytes are no UTF-8, and the place is the length of their longest front that is.
abbrev pub Decodes : List ℕ → Decoded → Type 0
Decodes bytes (Chars chars) = IsChars chars bytes
Decodes bytes (BadAt place) = (IsUtf8 bytes → ⊥) × IsUtf8Length bytes place
