use Rattle.std.proofs.Common.{arith, ◌≡◌, ◌∙◌, List, map, take, subst, sym, ap, ℕ}
use Rattle.std.proofs.lemmas.List.{take_all}
use Rattle.std.specs.List.Sorted.{IsPermutation}
use Rattle.harris_matrix.specs.declared.levels.Ranked.{Ranked}
use Rattle.harris_matrix.specs.Levels.{IsOrdering}
use Rattle.harris_matrix.specs.Rows.{mark_at}
use Rattle.harris_matrix.proofs.Ranking.{ordering_of}
use Rattle.harris_matrix.proofs.levels.order_cells.Goals as goal

pub returns : goal.returns
returns c =
    let rs : List Ranked = c.sort_ranked.new.ranked.items in
    let all : take c.loop-r.r-index c.deref-r-items.result.now ≡ rs = take_all _ _ (omega arith) ∙ c.deref-r-items.ensures.value in
    let cells_are : c.loop-r.cells.items ≡ map (λ r. r.cell) rs = c.loop-r.invariant ∙ ap (λ xs. map (λ (r : Ranked). r.cell) xs) all in
    let P : List Ranked → Type 0 = λ xs. IsPermutation xs rs in
    let Q : List ℕ → Type 0 = IsOrdering (mark_at c.args.rows.now.count c.args.rows.now.words.items) c.args.rows.now.count in
    subst Q (sym cells_are)
    (ordering_of _ _ c.requires.orderly rs (subst P c.in_ok-ranked.ensures c.in_ok-sort_ranked.ensures.moved) c.in_ok-sort_ranked.ensures.sorted)
