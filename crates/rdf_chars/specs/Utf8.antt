-- UTF-8, as the Unicode standard has it.
use Rattle.std.specs.Prelude.{ℕ, List, [], ◌∷◌, ◌++◌, ◌≡◌, ◌≤◌, length, take, true, Option, None, Some, Result, Ok, Err}
use Rattle.std.specs.Str.{IsUtf8}
use lib.Utf8.{scalars, encodes}
use Rattle.rdf_chars.specs.declared.utf8.BadUtf8.{BadUtf8}

-- The encodings of the characters, joined, are the bytes.
abbrev pub IsChars : List ℕ → List ℕ → Type 0
IsChars chars bytes = (scalars chars ≡ true) × (encodes chars ≡ bytes)

-- The bytes begin some UTF-8.
abbrev pub BeginsUtf8 : List ℕ → Type 0
BeginsUtf8 bytes = (more : List ℕ) × IsUtf8 (bytes ++ more)

-- The longest front of the bytes that is UTF-8 has n bytes.
pub record IsUtf8Length (bytes : List ℕ) (n : ℕ) : Type 0 where
  pub in_bytes : n ≤ length bytes
  pub front : IsUtf8 (take n bytes)
  pub longest : (m : ℕ) → m ≤ length bytes → IsUtf8 (take m bytes) → m ≤ n

-- What is said of the last byte of these: the character that it ends, nothing inside a character, or that no UTF-8 begins so.
abbrev pub Pushes : List ℕ → Result (Option ℕ) BadUtf8 → Type 0
Pushes bytes (Ok (Some c)) = (chars : List ℕ) × IsChars (chars ++ c ∷ []) bytes
Pushes bytes (Ok None) = (IsUtf8 bytes → ⊥) × BeginsUtf8 bytes
Pushes bytes (Err e) = (BeginsUtf8 bytes → ⊥) × IsUtf8Length bytes e.at

-- What is said of bytes that end.
abbrev pub Finishes : List ℕ → Result Unit BadUtf8 → Type 0
Finishes bytes (Ok x) = IsUtf8 bytes
Finishes bytes (Err e) = (IsUtf8 bytes → ⊥) × IsUtf8Length bytes e.at
