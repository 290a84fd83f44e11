use Rattle.std.proofs.Common.{arith, inl, inr, ◌<◌, ◌+◌, ◌*◌, ◌∙◌, ℕ, List, Bool, length, get_or, sym, ap, subst}
use Rattle.std.proofs.lemmas.Bool.{cases_Bool}
use Rattle.order_closure.specs.Rows.{bit_of, with_bit}
use Rattle.harris_matrix.specs.Rows.{IsRowMarked}
use Rattle.harris_matrix.proofs.Marking.{row_marked_with, row_marked_without}
use Rattle.harris_matrix.proofs.finding.mark_row.Goals as goal

pub loop-j-preserved : goal.loop-j-preserved
loop-j-preserved c =
    let n : ℕ = length c.args.least.now in
    let test : ℕ → Bool = λ j. bit_of c.args.row.now 0 (2 * get_or c.args.least.now j 0) in
    let below : c.loop-j.j < n = omega arith in
    let P : List ℕ → Type 0 = IsRowMarked test n c.args.i (c.loop-j.j + 1) c.args.words.now in
    elim (cases_Bool c.follows.result) [
      | inl yea ↦ subst P (sym (c.add_bit.ensures.set yea ∙ ap (λ r. with_bit c.loop-j.words (c.args.i * r) c.loop-j.j) c.row_width.ensures))
          (row_marked_with test n c.args.i c.loop-j.j c.args.words.now c.loop-j.words c.requires.in_range below c.requires.size c.loop-j.invariant
          (sym c.follows.ensures ∙ yea))
      | inr nay ↦ subst P (sym (c.add_bit.ensures.kept nay))
          (row_marked_without test n c.args.i c.loop-j.j c.args.words.now c.loop-j.words c.requires.in_range below c.requires.size c.loop-j.invariant
          (sym c.follows.ensures ∙ nay))
    ]
