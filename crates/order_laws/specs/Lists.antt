-- Lists of order numbers, the shorter first, and of one length in lexicographic order.
use Rattle.std.specs.Prelude.{◌≡◌, ◌<◌, ◌⊎◌, ℕ, List, [], ◌∷◌, length}

abbrev pub IsLexicographicallyLess : List ℕ → List ℕ → Type 0
IsLexicographicallyLess [] ys = ⊥
IsLexicographicallyLess (x ∷ xs) [] = ⊥
IsLexicographicallyLess (x ∷ xs) (y ∷ ys) = (x < y) ⊎ ((x ≡ y) × IsLexicographicallyLess xs ys)

abbrev pub IsLess : List ℕ → List ℕ → Type 0
IsLess xs ys = (length xs < length ys) ⊎ ((length xs ≡ length ys) × IsLexicographicallyLess xs ys)

abbrev pub IsAtMost : List ℕ → List ℕ → Type 0
IsAtMost xs ys = (xs ≡ ys) ⊎ IsLess xs ys
