-- The Harris matrix, as it is computed.
use Rattle.std.proofs.Common.{arith, ◌≡◌, ◌<◌, ℕ, List, length, get_or, map, sym, ap, ap₂, subst, ◌∙◌}
use Rattle.std.specs.List.{range_with_len}
use Rattle.std.proofs.lemmas.List.FromFn.{fill_by_all, length-range_with_len, get_or-map-range_with_len}
use Rattle.std.proofs.lemmas.List.{length-map}
use Rattle.order_laws.specs.declared.Order.{Order}
use Rattle.harris_matrix.specs.declared.cells.Cell.{Cell}
use Rattle.harris_matrix.specs.Covers.{all_covers}
use Rattle.harris_matrix.specs.Levels.{IsLevel}
use Rattle.harris_matrix.specs.Matrices.{Cells, IsMatrixOf, no_cell, least_of, is_before}
use Rattle.harris_matrix.specs.Rows.{IsStrictOrder}
use Rattle.crm_matrix.specs.MatrixTexts.{cell_at, matrix_of}
use Rattle.crm_matrix.proofs.MatrixLevels.{level_is_greatest, level_is_unique}

same_cell : (x y : Cell) → x.extents ≡ y.extents → x.level ≡ y.level → x ≡ y
same_cell x y e l = ap₂ (λ es n. record { extents = es; level = n }) e l

same_matrix : (x y : Cells) → x.cells ≡ y.cells → x.covers ≡ y.covers → x ≡ y
same_matrix x y c v = ap₂ (λ cs ps. record { cells = cs; covers = ps }) c v

module _ (orders : List Order) (periods : List ℕ) (orderly : IsStrictOrder (is_before orders periods) (length (least_of orders periods))) where
  abbrev count : ℕ
  count = length (least_of orders periods)

  -- any matrix of the orders is this one
  pub matrix_is : (m : Cells) → IsMatrixOf orders periods m → m ≡ matrix_of orders periods
  unfolding matrix_of
  matrix_is m is =
      same_matrix m (matrix_of orders periods) (fill_by_all (cell_at orders periods) m.cells count no_cell is.count same)
      (is.covers ∙ ap (all_covers (is_before orders periods)) is.count)
    where
      same : (c : ℕ) → c < count → get_or m.cells c no_cell ≡ cell_at orders periods c
      same c h =
          let P : ℕ → Type 0 = λ n. c < n in
          let within : c < length m.cells = subst P (sym is.count) h in
          let Q : ℕ → Type 0 = λ n. IsLevel (is_before orders periods) n c (get_or m.cells c no_cell).level in
          same_cell (get_or m.cells c no_cell) (cell_at orders periods c) (is.extents c within)
          (level_is_unique (is_before orders periods) count orderly c (get_or m.cells c no_cell).level h (subst Q is.count (is.levels c within)))

  at : (c : ℕ) → c < count → get_or (map (cell_at orders periods) (range_with_len 0 count)) c no_cell ≡ cell_at orders periods c
  at c h = get_or-map-range_with_len (cell_at orders periods) 0 count c c no_cell h (omega arith)

  -- this one is a matrix of the orders
  pub is_matrix : IsMatrixOf orders periods (matrix_of orders periods)
  unfolding matrix_of
  is_matrix = record {
    count = size;
    extents = λ c h. ap (λ x. x.extents) (at c (within c h));
    levels = λ c h. (let P : Cell → Type 0 = λ x. IsLevel (is_before orders periods) count c x.level in
        let Q : ℕ → Type 0 = λ n. IsLevel (is_before orders periods) n c (get_or (matrix_of orders periods).cells c no_cell).level in
        subst Q (sym size) (subst P (sym (at c (within c h))) (level_is_greatest (is_before orders periods) count orderly c (within c h))));
    covers = ap (all_covers (is_before orders periods)) (sym size);
  }
    where
      size : length (matrix_of orders periods).cells ≡ count
      size = length-map (range_with_len 0 count) (cell_at orders periods) ∙ length-range_with_len 0 count

      within : (c : ℕ) → c < length (matrix_of orders periods).cells → c < count
      within c h = subst (λ n. c < n) size h
