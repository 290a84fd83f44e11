-- The forms of certificate texts.
use Rattle.std.specs.Prelude.{◌≡◌, ◌<◌, ◌≤◌, ◌+◌, ◌*◌, ◌^◌, ◌-◌, ℕ, Some, List, [], ◌∷◌, slice_get}
use Rattle.std.specs.Fmt.{decimal}
use Rattle.certificate_trees.specs.Beginnings.{Then, Word, Either, IsDigit}

-- a decimal number within bounds
abbrev pub NumberIn : ℕ → ℕ → List ℕ → Type 0
NumberIn least bound p = (n : ℕ) × ((least ≤ n) × ((n ≤ bound) × (p ≡ decimal n)))

abbrev pub Number : List ℕ → Type 0
Number = NumberIn 0 (2 ^ 32 - 1)

-- a letter and a number
abbrev pub Name : ℕ → List ℕ → Type 0
Name letter = Then (Word (letter ∷ [])) Number

-- a whole number of 128 bits, with `-` before one that is less than zero
abbrev pub Instant : List ℕ → Type 0
Instant = Either (NumberIn 0 (2 ^ 127 - 1)) (Then (Word (45 ∷ [])) (NumberIn 1 (2 ^ 127)))

abbrev pub NoDigit : List ℕ → ℕ → Type 0
NoDigit text at = (c : ℕ) → slice_get text at ≡ Some c → IsDigit c → ⊥

-- no digit stands here that goes on with the number within the bound
abbrev pub IsFull : List ℕ → ℕ → ℕ → ℕ → Type 0
IsFull text to bound n = (c : ℕ) → slice_get text to ≡ Some c → IsDigit c → 0 < n → n * 10 + (c - 48) ≤ bound → ⊥
