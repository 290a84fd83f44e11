-- An index by the number in a code: the one property whose code, or whose inverse's code, a text can be.
use Rattle.std.specs.Prelude.{ℕ, ◌+◌, ◌-◌, ◌*◌, ◌%◌, ◌==◌, ◌&&◌, Bool, cond, nat_le, nat_lt, List, [], ◌∷◌, length, slice_index, slice_index_or}
use Rattle.crm_properties.specs.declared.Space.{Space}
use Rattle.crm_properties.specs.declared.Space.TheVariants.{Crm, Archaeo, Whole}

-- the rows of P0 to P21, and 44 where there is none
unfoldable pub low_numbers : List ℕ
low_numbers =
    44 ∷ 20 ∷ 21 ∷ 22 ∷ 8 ∷ 44 ∷ 44 ∷ 23 ∷ 44 ∷ 10 ∷ 11 ∷ 24 ∷ 25 ∷ 44 ∷ 26 ∷ 27 ∷
    44 ∷ 28 ∷ 44 ∷ 44 ∷ 29 ∷ 30 ∷
    []

-- the rows of P81 to P100; of P81 and P82 those with an `a`
unfoldable pub middle_numbers : List ℕ
middle_numbers =
    14 ∷ 13 ∷ 44 ∷ 44 ∷ 44 ∷ 12 ∷ 44 ∷ 44 ∷ 32 ∷ 44 ∷ 44 ∷ 33 ∷ 34 ∷ 44 ∷ 35 ∷ 44 ∷
    44 ∷ 36 ∷ 44 ∷ 37 ∷
    []

-- the rows of P173 to P185
unfoldable pub high_numbers : List ℕ
high_numbers =
    0 ∷ 1 ∷ 2 ∷ 3 ∷ 44 ∷ 44 ∷ 44 ∷ 44 ∷ 44 ∷ 4 ∷ 5 ∷ 6 ∷ 7 ∷
    []

abbrev pub by_number : ℕ → ℕ
by_number n =
    cond (nat_lt n 22) (slice_index_or low_numbers n 44) (
    cond (nat_le 81 n && nat_lt n 101) (slice_index_or middle_numbers (n - 81) 44) (
    cond (nat_le 173 n && nat_lt n 186) (slice_index_or high_numbers (n - 173) 44) (
    cond (n == 46) 31 (cond (n == 134) 38 (cond (n == 160) 9 44)))))

abbrev pub is_digit : ℕ → Bool
is_digit byte = nat_le 48 byte && nat_le byte 57

-- the value of a digit
abbrev pub digit : ℕ → ℕ
digit byte = byte % 16

-- the number behind the letter, of at most three digits; the first byte behind the letter is taken as one
abbrev pub number_in : List ℕ → ℕ
number_in (letter ∷ a ∷ b ∷ c ∷ rest) =
    cond (is_digit b) (cond (is_digit c) (digit a * 100 + digit b * 10 + digit c) (digit a * 10 + digit b)) (digit a)
number_in (letter ∷ a ∷ b ∷ []) = cond (is_digit b) (digit a * 10 + digit b) (digit a)
number_in (letter ∷ a ∷ []) = digit a
number_in text = 0

-- a `b` in the fourth place leads from P82a to P82b and from P81a to P81b
abbrev pub second_row : ℕ → ℕ
second_row row = cond (row == 13) 16 (cond (row == 14) 15 row)

abbrev pub in_crm : List ℕ → ℕ
in_crm text = cond (slice_index text 3 == 98) (second_row (by_number (number_in text))) (by_number (number_in text))

-- AP13 and AP7 differ in their digit
abbrev pub in_archaeo : List ℕ → ℕ
in_archaeo text = cond (slice_index text 2 == 49) 39 (cond (slice_index text 2 == 55) 40 44)

-- the whole IRIs differ in their lengths and last letters
abbrev pub in_whole : List ℕ → ℕ
in_whole text =
    cond (length text == 21) 19 (cond (length text == 22) 18 (
    cond (length text == 23) (cond (slice_index text 22 == 111) 42 17) (
    cond (length text == 25) (cond (slice_index text 24 == 109) 41 43) 44)))

abbrev pub candidate_of : Space → List ℕ → ℕ
candidate_of Crm text = in_crm text
candidate_of Archaeo text = in_archaeo text
candidate_of Whole text = in_whole text
