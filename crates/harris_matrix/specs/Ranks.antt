-- Cells with the number of cells that are before each.
use Rattle.std.specs.Prelude.{zero, suc, ℕ, Bool, List, [], ◌∷◌, ◌++◌}
use Rattle.harris_matrix.specs.declared.levels.Ranked.{Ranked}
use Rattle.harris_matrix.specs.Levels.{count_below}

abbrev pub ranked : (ℕ → ℕ → Bool) → ℕ → ℕ → Ranked
ranked before count j = record { rank = count_below count (λ k. before k j); cell = j }

abbrev pub ranked_below : (ℕ → ℕ → Bool) → ℕ → ℕ → List Ranked
ranked_below before count zero = []
ranked_below before count (suc j) = ranked_below before count j ++ ranked before count j ∷ []
