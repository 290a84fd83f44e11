-- Cells of periods, their representatives, and which cells come before which, over a table of what follows.
use Rattle.std.specs.Prelude.{ℕ, Bool, false, not, ◌&&◌, ◌||◌, nat_lt, List, [], ◌∷◌, filter, slice_index_or}
use Rattle.order_laws.specs.declared.Point.{Point}
use Rattle.order_laws.specs.declared.Point.TheVariants.{Start, End}
use Rattle.order_laws.specs.declared.Reach.{Reach}
use Rattle.order_laws.specs.Tables.{is_known}

-- two extents share a cell where all four `<=` between their starts and between their ends follow
abbrev pub shares_cell : (Point → Point → Reach) → ℕ → ℕ → Bool
shares_cell table a b =
    is_known (table (Start a) (Start b)) && is_known (table (Start b) (Start a))
    && is_known (table (End a) (End b)) && is_known (table (End b) (End a))

-- the first extent ends at or before the start of the second
abbrev pub ends_before : (Point → Point → Reach) → ℕ → ℕ → Bool
ends_before table a b = is_known (table (End a) (Start b))

abbrev pub some_pass : (ℕ → Bool) → List ℕ → Bool
some_pass test [] = false
some_pass test (a ∷ as') = test a || some_pass test as'

-- no lesser one of the periods shares the cell of a
abbrev pub is_least : (Point → Point → Reach) → List ℕ → ℕ → Bool
is_least table periods a = not (some_pass (λ b. nat_lt b a && shares_cell table b a) periods)

-- the least extent of each cell, which represents it; cells are numbered by these
abbrev pub representatives : (Point → Point → Reach) → List ℕ → List ℕ
representatives table periods = filter (is_least table periods) periods

-- the periods of the cell that a represents, in their order
abbrev pub members : (Point → Point → Reach) → List ℕ → ℕ → List ℕ
members table periods a = filter (shares_cell table a) periods

-- of two cells by number, by their representatives
abbrev pub comes_before : (Point → Point → Reach) → List ℕ → ℕ → ℕ → Bool
comes_before table least i j = ends_before table (slice_index_or least i 0) (slice_index_or least j 0)
