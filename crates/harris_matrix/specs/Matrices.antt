-- The Harris matrix of periods over a list of orders.
use Rattle.std.specs.Prelude.{zero, suc, ◌≡◌, ◌<◌, ℕ, Bool, List, [], ◌∷◌, ◌++◌, length, slice_index_or}
use Rattle.order_laws.specs.declared.Order.{Order}
use Rattle.order_laws.specs.declared.Point.{Point}
use Rattle.order_laws.specs.declared.Reach.{Reach}
use Rattle.order_laws.specs.Closure.{reach_between}
use Rattle.harris_matrix.specs.declared.cells.Cell.{Cell}
use Rattle.harris_matrix.specs.declared.cells.CellPair.{CellPair}
use Rattle.harris_matrix.specs.Cells.{representatives, members, comes_before}
use Rattle.harris_matrix.specs.Covers.{all_covers}
use Rattle.harris_matrix.specs.Levels.{IsLevel}

-- what contracts see of a matrix
pub record Cells : Type 0 where
  pub cells : List Cell
  pub covers : List CellPair

-- what contracts see of the walks to a cell
pub record Target : Type 0 where
  pub covers : List CellPair
  pub target : ℕ

-- stands where no cell has the number; the definitions below never look there
abbrev pub no_cell : Cell
no_cell = record { extents = []; level = 0 }

-- the least periods of the cells, by number of cell
abbrev pub least_of : List Order → List ℕ → List ℕ
least_of orders periods = representatives (reach_between orders) periods

-- of two cells by number: the first ends at or before the start of the second
abbrev pub is_before : List Order → List ℕ → ℕ → ℕ → Bool
is_before orders periods = comes_before (reach_between orders) (least_of orders periods)

-- the cells by number with their periods and levels, and the covers, ascending
pub record IsMatrixOf (orders : List Order) (periods : List ℕ) (matrix : Cells) : Type 0 where
  pub count : length matrix.cells ≡ length (least_of orders periods)
  pub extents : (c : ℕ) → c < length matrix.cells →
      (slice_index_or matrix.cells c no_cell).extents ≡ members (reach_between orders) periods (slice_index_or (least_of orders periods) c 0)
  pub levels : (c : ℕ) → c < length matrix.cells →
      IsLevel (is_before orders periods) (length matrix.cells) c (slice_index_or matrix.cells c no_cell).level
  pub covers : matrix.covers ≡ all_covers (is_before orders periods) (length matrix.cells)

-- the first cells, with their periods and levels
abbrev pub cells_below : (Point → Point → Reach) → List ℕ → List ℕ → List ℕ → ℕ → List Cell
cells_below table periods least levels zero = []
cells_below table periods least levels (suc c) =
    cells_below table periods least levels c
    ++ record { extents = members table periods (slice_index_or least c 0); level = slice_index_or levels c 0 } ∷ []
