-- What the characters of a token stand for.
use Rattle.std.specs.Prelude.{ℕ, List, [], ◌∷◌, ◌+◌, ◌*◌, ◌-◌, ◌==◌, ◌||◌, nat_le, nat_lt, cond, Bool, false, not, take, drop, length}
use Rattle.std.specs.Char.{digit_value}
use lib.Utf8.{scalar}
use Rattle.text_patterns.specs.Patterns.{within}
use Rattle.rdf_reading.specs.declared.values.Pending.{Pending}
use Rattle.rdf_reading.specs.declared.values.Pending.TheVariants.{Plain, Slash, Digits}

-- what the letter behind a backslash stands for
abbrev pub letter_value : ℕ → ℕ
letter_value c = cond (c == 0x74) 9 (cond (c == 0x62) 8 (cond (c == 0x6E) 10 (cond (c == 0x72) 13 (cond (c == 0x66) 12 c))))

-- a digit more; the numbers of spelled escapes stay small
abbrev pub more_digits : ℕ → ℕ → ℕ
more_digits a c = cond (nat_lt a 0x1_0000_0000) (a * 16 + digit_value c) 0

-- the character of a number, which is one in each spelled escape
abbrev pub char_of : ℕ → ℕ
char_of n = cond (scalar n) n 0xFFFD

-- The characters that a text stands for, behind what is read of an escape.
abbrev pub value_from : Pending → List ℕ → List ℕ
value_from p [] = []
value_from Plain (c ∷ s) = cond (c == 0x5C) (value_from Slash s) (c ∷ value_from Plain s)
value_from Slash (c ∷ s) = cond (c == 0x75) (value_from (Digits 4 0) s) (cond (c == 0x55) (value_from (Digits 8 0) s) ((letter_value c) ∷ value_from Plain s))
value_from (Digits n a) (c ∷ s) = cond (nat_le n 1) ((char_of (more_digits a c)) ∷ value_from Plain s) (value_from (Digits (n - 1) (more_digits a c)) s)

-- the characters that an IRI may have unescaped
abbrev pub iri_chars : List (ℕ × ℕ)
iri_chars = (0x21, 0x21) ∷ (0x23, 0x3B) ∷ (0x3D, 0x3D) ∷ (0x3F, 0x5B) ∷ (0x5D, 0x5D) ∷ (0x5F, 0x5F) ∷ (0x61, 0x7A) ∷ (0x7E, 0x10FFFF) ∷ []

abbrev pub is_excluded : ℕ → Bool
is_excluded c = not (within iri_chars c)

-- whether the number of some escape is a character that an IRI may not have
abbrev pub bad_from : Pending → List ℕ → Bool
bad_from p [] = false
bad_from Plain (c ∷ s) = cond (c == 0x5C) (bad_from Slash s) (bad_from Plain s)
bad_from Slash (c ∷ s) = cond (c == 0x75) (bad_from (Digits 4 0) s) (cond (c == 0x55) (bad_from (Digits 8 0) s) (bad_from Plain s))
bad_from (Digits n a) (c ∷ s) = cond (nat_le n 1) (is_excluded (char_of (more_digits a c)) || bad_from Plain s) (bad_from (Digits (n - 1) (more_digits a c)) s)

-- the characters that a text stands for
abbrev pub unescaped : List ℕ → List ℕ
unescaped chars = value_from Plain chars

-- whether some escape of a text gives a character that an IRI may not have
abbrev pub has_bad_escape : List ℕ → Bool
has_bad_escape chars = bad_from Plain chars

-- but for the first n and the last n
abbrev pub inside : ℕ → List ℕ → List ℕ
inside n chars = drop n (take (length chars - n) chars)
