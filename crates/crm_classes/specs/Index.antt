-- An index by the number in a code: the one class whose code a text can be.
use Rattle.std.specs.Prelude.{ℕ, ◌+◌, ◌*◌, ◌%◌, ◌==◌, cond, List, [], ◌∷◌, slice_index_or}

-- the class with this number behind the `E`, and 71 where there is none
unfoldable pub e_numbers : List ℕ
e_numbers =
    71 ∷ 0 ∷ 1 ∷ 7 ∷ 9 ∷ 11 ∷ 39 ∷ 12 ∷ 16 ∷ 17 ∷ 18 ∷ 19 ∷ 30 ∷ 20 ∷ 31 ∷ 32 ∷
    33 ∷ 34 ∷ 49 ∷ 50 ∷ 55 ∷ 56 ∷ 58 ∷ 71 ∷ 57 ∷ 59 ∷ 51 ∷ 60 ∷ 61 ∷ 71 ∷ 71 ∷ 71 ∷
    71 ∷ 71 ∷ 71 ∷ 71 ∷ 71 ∷ 71 ∷ 71 ∷ 44 ∷ 71 ∷ 66 ∷ 67 ∷ 71 ∷ 71 ∷ 71 ∷ 71 ∷ 71 ∷
    71 ∷ 71 ∷ 71 ∷ 71 ∷ 2 ∷ 3 ∷ 4 ∷ 62 ∷ 68 ∷ 69 ∷ 70 ∷ 71 ∷ 71 ∷ 71 ∷ 71 ∷ 13 ∷
    14 ∷ 35 ∷ 36 ∷ 37 ∷ 40 ∷ 41 ∷ 45 ∷ 47 ∷ 48 ∷ 65 ∷ 46 ∷ 71 ∷ 71 ∷ 5 ∷ 71 ∷ 28 ∷
    29 ∷ 42 ∷ 71 ∷ 43 ∷ 71 ∷ 21 ∷ 22 ∷ 23 ∷ 71 ∷ 63 ∷ 64 ∷ 71 ∷ 6 ∷ 10 ∷ 71 ∷ 71 ∷
    27 ∷
    []

-- the class with this number behind the `A`, and 71 where there is none
unfoldable pub a_numbers : List ℕ
a_numbers =
    71 ∷ 24 ∷ 52 ∷ 53 ∷ 38 ∷ 15 ∷ 25 ∷ 8 ∷ 54 ∷ 26 ∷
    []

-- the value of a digit
abbrev pub digit : ℕ → ℕ
digit byte = byte % 16

abbrev pub lettered : ℕ → ℕ → ℕ
lettered letter n = cond (letter == 69) (slice_index_or e_numbers n 71) (cond (letter == 65) (slice_index_or a_numbers n 71) 71)

-- a letter and one or two digits lead to one class
abbrev pub candidate_of : List ℕ → ℕ
candidate_of (letter ∷ ones ∷ []) = lettered letter (digit ones)
candidate_of (letter ∷ tens ∷ ones ∷ []) = lettered letter (digit tens * 10 + digit ones)
candidate_of text = 71
