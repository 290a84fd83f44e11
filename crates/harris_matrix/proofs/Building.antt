-- The matrix from what was found.
use Rattle.std.proofs.Common.{arith, zero, suc, ◌≡◌, ◌<◌, ◌≤◌, ◌^◌, inl, inr, ℕ, Bool, List, [], ◌∷◌, length, get_or, refl, sym, ap, subst, ◌∙◌}
use Rattle.std.specs.Prelude.{filter}
use Rattle.std.proofs.lemmas.List.{get_or_append_left, get_or_push, length_push}
use Rattle.std.proofs.lemmas.Bool.{cases_Bool, cases_eq}
use Rattle.order_laws.specs.declared.Order.{Order}
use Rattle.order_laws.specs.declared.Point.{Point}
use Rattle.order_laws.specs.declared.Reach.{Reach}
use Rattle.order_laws.specs.Closure.{reach_between}
use Rattle.harris_matrix.specs.declared.cells.Cell.{Cell}
use Rattle.harris_matrix.specs.declared.cells.CellPair.{CellPair}
use Rattle.harris_matrix.specs.Cells.{members, comes_before}
use Rattle.harris_matrix.specs.Covers.{all_covers, starts_of}
use Rattle.harris_matrix.specs.Levels.{IsLevel, AreLevels, IsOrdering}
use Rattle.harris_matrix.specs.Matrices.{IsMatrixOf, cells_below, no_cell, least_of, is_before}
use Rattle.harris_matrix.specs.Walks.{IsLaidOut}
use Rattle.harris_matrix.proofs.Pairs.{laid_out}
use Rattle.harris_matrix.proofs.Agreeing.{all_covers_same, level_same}

-- what is kept is no more than there was
pub kept_few : (test : ℕ → Bool) (xs : List ℕ) → length (filter test xs) ≤ length xs
kept_few test [] = omega arith
kept_few test (x ∷ xs) = elim (cases_Bool (test x)) [
  | inl yea ↦ rw yea (omega (arith, kept_few test xs))
  | inr nay ↦ rw nay (omega (arith, kept_few test xs))
]

length-cells_below : (table : Point → Point → Reach) (periods least levels : List ℕ) (n : ℕ) → length (cells_below table periods least levels n) ≡ n
length-cells_below table periods least levels zero = refl
length-cells_below table periods least levels (suc n) =
    let cell : Cell = record { extents = members table periods (get_or least n 0); level = get_or levels n 0 } in
    omega (arith, length_push (cells_below table periods least levels n) cell, length-cells_below table periods least levels n)

get_or-cells_below : (table : Point → Point → Reach) (periods least levels : List ℕ) (n c : ℕ) → c < n →
    get_or (cells_below table periods least levels n) c no_cell ≡ record { extents = members table periods (get_or least c 0); level = get_or levels c 0 }
get_or-cells_below table periods least levels zero c h = absurd (omega arith)
get_or-cells_below table periods least levels (suc n) c h =
    let cell : ℕ → Cell = λ m. record { extents = members table periods (get_or least m 0); level = get_or levels m 0 } in
    elim (cases_eq c n) [
      | inl same ↦ get_or_push (cells_below table periods least levels n) (cell n) no_cell c (length-cells_below table periods least levels n ∙ sym same) ∙ ap cell (sym same)
      | inr other ↦ get_or_append_left (cells_below table periods least levels n) (cell n ∷ []) no_cell c (omega (arith, length-cells_below table periods least levels n, other))
          ∙ get_or-cells_below table periods least levels n c (omega (arith, other))
    ]

pub matrix_of : (orders : List Order) (periods least levels : List ℕ) (cells : List Cell) (pairs : List CellPair) (marks : ℕ → ℕ → Bool) →
    least ≡ least_of orders periods →
    ((i j : ℕ) → i < length least → j < length least → marks i j ≡ comes_before (reach_between orders) least i j) →
    AreLevels marks (length least) levels → pairs ≡ all_covers marks (length least) →
    cells ≡ cells_below (reach_between orders) periods least levels (length least) →
    IsMatrixOf orders periods (record { cells = cells; covers = pairs })
matrix_of orders periods least levels cells pairs marks own agree are_levels are_covers are_cells = record {
  count = size ∙ ap length own;
  extents = λ c h. (let w : c < length least = omega (arith, size) in
      ap (λ x. x.extents) (at c w) ∙ ap (λ ls. members table periods (get_or ls c 0)) own);
  levels = λ c h. (let w : c < length least = omega (arith, size) in
      let P : ℕ → Type 0 = λ n. IsLevel (is_before orders periods) n c (get_or cells c no_cell).level in
      let Q : ℕ → Type 0 = λ level. IsLevel (is_before orders periods) (length least) c level in
      subst P (sym size) (subst Q (sym (ap (λ x. x.level) (at c w)))
      (level_same (length least) marks (is_before orders periods) agree' c (get_or levels c 0) w (are_levels.each c w))));
  covers = are_covers ∙ all_covers_same (length least) marks (is_before orders periods) agree'
      ∙ ap (all_covers (is_before orders periods)) (sym size);
}
  where
    table : Point → Point → Reach
    table = reach_between orders

    size : length cells ≡ length least
    size = ap length are_cells ∙ length-cells_below table periods least levels (length least)

    at : (c : ℕ) → c < length least → get_or cells c no_cell ≡ record { extents = members table periods (get_or least c 0); level = get_or levels c 0 }
    at c w = ap (λ cs. get_or cs c no_cell) are_cells ∙ get_or-cells_below table periods least levels (length least) c w

    agree' : (i j : ℕ) → i < length least → j < length least → marks i j ≡ is_before orders periods i j
    agree' i j h l = agree i j h l ∙ ap (λ ls. comes_before table ls i j) own

pub laid : (before : ℕ → ℕ → Bool) (n m : ℕ) (pairs : List CellPair) (starts cells : List ℕ) → m ≡ n → pairs ≡ all_covers before n → starts ≡ starts_of before n n → n ≤ 2 ^ 16 →
    IsOrdering before n cells → IsLaidOut m pairs starts cells
laid before n m pairs starts cells size are_pairs are_starts few ordering =
    let P : ℕ → Type 0 = λ k. IsLaidOut k pairs starts cells in
    let Q : List CellPair → Type 0 = λ ps. IsLaidOut n ps starts cells in
    let R : List ℕ → Type 0 = λ ss. IsLaidOut n (all_covers before n) ss cells in
    subst P (sym size) (subst Q (sym are_pairs) (subst R (sym are_starts) (laid_out before n cells few ordering)))

pub length-cells : (table : Point → Point → Reach) (periods least levels : List ℕ) (cells : List Cell) →
    cells ≡ cells_below table periods least levels (length least) → length cells ≡ length least
length-cells table periods least levels cells e = ap length e ∙ length-cells_below table periods least levels (length least)
