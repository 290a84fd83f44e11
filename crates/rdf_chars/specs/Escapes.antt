-- The escapes of the standard: `\t` and its kin, and the numbers of characters in hexadecimal digits.
use Rattle.std.specs.Prelude.{ℕ, List, [], ◌∷◌, ◌≡◌, ◌≤◌, ◌+◌, ◌*◌, ◌==◌, ◌||◌, nat_lt, cond, length, take, true, Option, None, Some}
use Rattle.std.specs.Char.{digit_value}
use lib.Utf8.{scalar}

-- The number that hexadecimal digits spell behind those that n stands for, the leading digit first; none where one is no digit.
abbrev pub hexadecimal : ℕ → List ℕ → Option ℕ
hexadecimal n [] = Some n
hexadecimal n (c ∷ cs) = cond (nat_lt (digit_value c) 16) (hexadecimal (n * 16 + digit_value c) cs) None

abbrev pub digits_behind : ℕ → Option ℕ
digits_behind mark = cond (mark == 0x75) (Some 4) (cond (mark == 0x55) (Some 8) None)

-- `\u` and four digits, or `\U` and eight; the number is a character's
abbrev pub IsUchar : List ℕ → ℕ → Type 0
IsUchar text c = (mark : ℕ) × (digits : List ℕ) × (text ≡ 0x5C ∷ mark ∷ digits) × (digits_behind mark ≡ Some (length digits)) × (hexadecimal 0 digits ≡ Some c) × (scalar c ≡ true)

-- what the letter behind a backslash stands for
abbrev pub escaped : ℕ → Option ℕ
escaped letter = cond (letter == 0x74) (Some 0x9) (cond (letter == 0x62) (Some 0x8) (cond (letter == 0x6E) (Some 0xA) (cond (letter == 0x72) (Some 0xD)
    (cond (letter == 0x66) (Some 0xC) (cond (letter == 0x22 || letter == 0x27 || letter == 0x5C) (Some letter) None)))))

abbrev pub IsEchar : List ℕ → ℕ → Type 0
IsEchar text c = (letter : ℕ) × (text ≡ 0x5C ∷ letter ∷ []) × (escaped letter ≡ Some c)

-- What stands at the front of the text: the character of an escape and its length, or none.
abbrev pub IsRead : (List ℕ → ℕ → Type 0) → List ℕ → ℕ → Option (ℕ × ℕ) → Type 0
IsRead Escape text from None = (n c : ℕ) → n ≤ length text → Escape (take n text) c → ⊥
IsRead Escape text from (Some x) = (n : ℕ) × (n ≤ length text) × Escape (take n text) x.0 × (x.1 ≡ from + n)
