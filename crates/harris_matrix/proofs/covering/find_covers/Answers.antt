use Rattle.std.proofs.Common.{arith, ◌≡◌, ◌++◌, ◌∷◌, [], ◌+◌, ◌∙◌, ap, ap₂, subst, suc, ℕ, Bool, false, List, length, get_or}
use Rattle.harris_matrix.specs.declared.cells.CellPair.{CellPair}
use Rattle.harris_matrix.specs.Covers.{covers, covers_of, starts_of, pairs_with}
use Rattle.harris_matrix.specs.Rows.{mark_at}
use Rattle.harris_matrix.proofs.Pairs.{pairs_with_same}
use Rattle.harris_matrix.proofs.covering.find_covers.Goals as goal

pub loop-i-preserved : goal.loop-i-preserved
loop-i-preserved c =
    let n : ℕ = c.args.rows.now.count in
    let B : ℕ → ℕ → Bool = mark_at n c.args.rows.now.words.items in
    let i : ℕ = c.loop-i.i in
    let size : length c.mark_covers.new.marks ≡ n = omega (arith, c.in_ok-marks_kept.ensures.len) in
    let row : pairs_with i (λ j. get_or c.mark_covers.new.marks j false) (length c.mark_covers.new.marks) ≡ pairs_with i (covers B n i) n =
    ap (pairs_with i (λ j. get_or c.mark_covers.new.marks j false)) size
    ∙ pairs_with_same i n (λ j. get_or c.mark_covers.new.marks j false) (covers B n i) c.mark_covers.ensures in
    let pairs : c.push_covers.new.pairs ≡ covers_of B n i ++ pairs_with i (covers B n i) n =
    c.in_ok-push_covers.ensures ∙ ap₂ (λ (ps qs : List CellPair). ps ++ qs) c.loop-i.invariant.0 row in
    let starts : c.push.new.self.items ≡ starts_of B n i ++ length (covers_of B n i ++ pairs_with i (covers B n i) n) ∷ [] =
    c.in_ok-push.ensures.items ∙ ap₂ (λ (ns : List ℕ) (k : ℕ). ns ++ k ∷ []) c.loop-i.invariant.1 (c.len.ensures ∙ ap length pairs) in
    let P : ℕ → Type 0 = λ m. (c.push_covers.new.pairs ≡ covers_of B n m) × (c.push.new.self.items ≡ starts_of B n m) in
    let next : suc i ≡ i + 1 = omega arith in
    subst P next (pairs, starts)
