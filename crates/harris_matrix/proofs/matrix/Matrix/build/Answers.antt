use Rattle.std.proofs.Common.{arith, ◌≡◌, ◌<◌, ◌≤◌, ◌∙◌, ℕ, Bool, List, length, subst, sym, ap}
use Rattle.std.proofs.lemmas.List.Elements.{All-filter}
use Rattle.order_laws.specs.declared.Order.{Order}
use Rattle.order_laws.specs.declared.Point.{Point}
use Rattle.order_laws.specs.declared.Reach.{Reach}
use Rattle.order_laws.specs.Closure.{reach_between}
use Rattle.order_core.specs.Sets.{AreExtents}
use Rattle.harris_matrix.specs.Cells.{representatives, is_least, comes_before}
use Rattle.harris_matrix.specs.Covers.{all_covers}
use Rattle.harris_matrix.specs.Levels.{AreLevels}
use Rattle.harris_matrix.specs.Matrices.{cells_below}
use Rattle.harris_matrix.specs.Rows.{mark_at}
use Rattle.harris_matrix.proofs.Building.{matrix_of, kept_few, laid, length-cells}
use Rattle.harris_matrix.proofs.matrix.Matrix.build.Goals as goal

pub order_rows-requires-clause-least : goal.order_rows-requires-clause-least
order_rows-requires-clause-least c =
    let table : Point → Point → Reach = reach_between c.args.set.now.list in
    let P : List ℕ → Type 0 = AreExtents c.args.set.now.extents in
    subst P (sym (c.deref.ensures.value ∙ c.in_ok-least.ensures ∙ ap (representatives table) c.as_slice-periods.ensures))
    (All-filter (is_least table c.args.periods.now) (λ k. k < c.args.set.now.extents) c.args.periods.now c.requires.periods)

pub order_rows-requires-clause-few : goal.order_rows-requires-clause-few
order_rows-requires-clause-few c =
    let table : Point → Point → Reach = reach_between c.args.set.now.list in
    let P : List ℕ → Type 0 = λ xs. length xs ≤ 65536 in
    subst P (sym (c.deref.ensures.value ∙ c.in_ok-least.ensures ∙ ap (representatives table) c.as_slice-periods.ensures))
    (omega (arith, kept_few (is_least table c.args.periods.now) c.args.periods.now, c.requires.few))

pub make_cells-requires-clause-least : goal.make_cells-requires-clause-least
make_cells-requires-clause-least c =
    let table : Point → Point → Reach = reach_between c.args.set.now.list in
    let P : List ℕ → Type 0 = AreExtents c.args.set.now.extents in
    subst P (sym (c.deref-4.ensures.value ∙ c.in_ok-least.ensures ∙ ap (representatives table) c.as_slice-periods.ensures))
    (All-filter (is_least table c.args.periods.now) (λ k. k < c.args.set.now.extents) c.args.periods.now c.requires.periods)

pub returns : goal.returns
returns c =
    let orders : List Order = c.args.set.now.list in
    let table : Point → Point → Reach = reach_between orders in
    let periods : List ℕ = c.args.periods.now in
    let least : List ℕ = c.in_ok-least.least.items in
    let levels : List ℕ = c.in_ok-levels.levels.items in
    let marks : ℕ → ℕ → Bool = mark_at c.in_ok-rows.rows.count c.in_ok-rows.rows.words.items in
    let count : c.in_ok-rows.rows.count ≡ length least = c.in_ok-rows.ensures.count ∙ ap length c.deref.ensures.value in
    let P : ℕ → Type 0 = λ n. AreLevels marks n levels in
    matrix_of orders periods least levels c.in_ok-cells.cells c.in_ok-covered.covered.pairs marks
    (c.in_ok-least.ensures ∙ ap (representatives table) c.as_slice-periods.ensures)
    (λ i j h l. c.in_ok-rows.ensures.marked i j (omega (arith, count)) (omega (arith, count)) ∙ ap (λ ls. comes_before table ls i j) c.deref.ensures.value)
    (subst P count c.in_ok-levels.ensures)
    (c.in_ok-covered.ensures.pairs ∙ ap (all_covers marks) count)
    (c.in_ok-cells.ensures
    ∙ ap (λ ps. cells_below table ps c.deref-4.result.now c.deref-5.result.now (length c.deref-4.result.now)) c.as_slice-periods.ensures
    ∙ ap (λ ls. cells_below table periods ls c.deref-5.result.now (length ls)) c.deref-4.ensures.value
    ∙ ap (λ vs. cells_below table periods least vs (length least)) c.deref-5.ensures.value)

pub invariant_of-result : goal.invariant_of-result
invariant_of-result c =
    let table : Point → Point → Reach = reach_between c.args.set.now.list in
    let marks : ℕ → ℕ → Bool = mark_at c.in_ok-rows.rows.count c.in_ok-rows.rows.words.items in
    let size : length c.in_ok-cells.cells ≡ c.in_ok-rows.rows.count =
    length-cells table c.as_slice-periods.result.now c.deref-4.result.now c.deref-5.result.now c.in_ok-cells.cells c.in_ok-cells.ensures
    ∙ ap length c.deref-4.ensures.value ∙ sym (c.in_ok-rows.ensures.count ∙ ap length c.deref.ensures.value) in
    laid marks c.in_ok-rows.rows.count (length c.in_ok-cells.cells) c.in_ok-covered.covered.pairs c.in_ok-covered.covered.starts.items c.in_ok-order.order.items
    size c.in_ok-covered.ensures.pairs c.in_ok-covered.ensures.starts c.in_ok-rows.ensures.rows.few c.in_ok-order.ensures
