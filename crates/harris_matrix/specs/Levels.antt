-- The level of a cell: the greatest number of cells in a list that ends before it, each before the next.
use Rattle.std.specs.Prelude.{zero, suc, ◌≡◌, ◌<◌, ◌≤◌, ◌+◌, ℕ, Bool, true, cond, List, [], ◌∷◌, length, slice_index_or, max}

-- a list of cells, from the last one backwards: the first that is named is before j, and each further one
-- is before the one that is named ahead of it
abbrev pub LeadsBack : (ℕ → ℕ → Bool) → ℕ → ℕ → List ℕ → Type 0
LeadsBack before count j [] = Unit {0}
LeadsBack before count j (k ∷ ks) = (k < count) × (before k j ≡ true) × LeadsBack before count k ks

pub record IsLevel (before : ℕ → ℕ → Bool) (count j level : ℕ) : Type 0 where
  pub cells : List ℕ
  pub lead_back : LeadsBack before count j cells
  pub reached : length cells ≡ level
  pub greatest : (ks : List ℕ) → LeadsBack before count j ks → length ks ≤ level

pub record AreLevels (before : ℕ → ℕ → Bool) (count : ℕ) (levels : List ℕ) : Type 0 where
  pub size : length levels ≡ count
  pub each : (j : ℕ) → j < count → IsLevel before count j (slice_index_or levels j 0)

-- how many of the first numbers pass the test
abbrev pub count_below : ℕ → (ℕ → Bool) → ℕ
count_below zero test = 0
count_below (suc n) test = count_below n test + cond (test n) 1 0

-- one more than the greatest level among the first cells that pass the test, or 0 where none does
abbrev pub above_all : ℕ → (ℕ → Bool) → List ℕ → ℕ
above_all zero test levels = 0
above_all (suc n) test levels = max (above_all n test levels) (cond (test n) (slice_index_or levels n 0 + 1) 0)

-- all cells, each behind those that are before it
pub record IsOrdering (before : ℕ → ℕ → Bool) (count : ℕ) (cells : List ℕ) : Type 0 where
  pub in_range : (p : ℕ) → p < length cells → slice_index_or cells p 0 < count
  pub whole : (k : ℕ) → k < count → (p : ℕ) × ((p < length cells) × (slice_index_or cells p 0 ≡ k))
  pub ahead : (p q : ℕ) → p < length cells → q < length cells →
      before (slice_index_or cells p 0) (slice_index_or cells q 0) ≡ true → p < q
