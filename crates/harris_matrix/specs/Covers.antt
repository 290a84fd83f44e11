-- Covers: which cells stand directly before which.
use Rattle.std.specs.Prelude.{zero, suc, ℕ, Bool, false, cond, not, ◌&&◌, ◌||◌, List, [], ◌∷◌, ◌++◌, length}
use Rattle.harris_matrix.specs.declared.cells.CellPair.{CellPair}

abbrev pub some_below : ℕ → (ℕ → Bool) → Bool
some_below zero test = false
some_below (suc n) test = some_below n test || test n

-- of so many cells, i is before j, and no cell stands between them
abbrev pub covers : (ℕ → ℕ → Bool) → ℕ → ℕ → ℕ → Bool
covers before count i j = before i j && not (some_below count (λ k. before i k && before k j))

-- i is before j, which is not struck
abbrev pub is_direct : (ℕ → ℕ → Bool) → (ℕ → Bool) → ℕ → ℕ → Bool
is_direct before struck i j = before i j && not (struck j)

-- the pairs of i and the first numbers that pass the test, ascending
abbrev pub pairs_with : ℕ → (ℕ → Bool) → ℕ → List CellPair
pairs_with i test zero = []
pairs_with i test (suc j) = pairs_with i test j ++ cond (test j) (record { first = i; second = j } ∷ []) []

-- the covers of the first cells, ascending
abbrev pub covers_of : (ℕ → ℕ → Bool) → ℕ → ℕ → List CellPair
covers_of before count zero = []
covers_of before count (suc i) = covers_of before count i ++ pairs_with i (covers before count i) count

-- all covers of so many cells, ascending
abbrev pub all_covers : (ℕ → ℕ → Bool) → ℕ → List CellPair
all_covers before count = covers_of before count count

-- where the covers of each of the first cells begin, and behind them where they end
abbrev pub starts_of : (ℕ → ℕ → Bool) → ℕ → ℕ → List ℕ
starts_of before count zero = 0 ∷ []
starts_of before count (suc i) = starts_of before count i ++ length (covers_of before count (suc i)) ∷ []
