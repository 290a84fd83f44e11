use Rattle.std.proofs.Common.{◌≡◌, length, arith, subst, ℕ}
use Rattle.order_closure.specs.Rows.{bit_of}
use Rattle.harris_matrix.specs.Rows.{mark_at}
use Rattle.harris_matrix.proofs.Striking.{IsMarking, marking_more, marking_ends}
use Rattle.harris_matrix.proofs.covering.mark_covers.Goals as goal

pub loop-j-preserved : goal.loop-j-preserved
loop-j-preserved c =
    marking_more _ _ _ c.requires.orderly c.requires.ordering _ c.requires.in_range _ _ _ _ _ (omega arith) (omega arith)
    c.loop-j.invariant c.mark_cell.ensures.marked c.mark_cell.ensures.struck

pub returns : goal.returns
returns c =
    let done : c.loop-j.j-index ≡ length c.args.cells.now = omega arith in
    let P : ℕ → Type 0 = λ p. IsMarking (mark_at c.args.rows.now.count c.args.rows.now.words.items) c.args.rows.now.count c.args.cells.now c.args.i p (bit_of c.loop-j.struck 0) c.loop-j.marks in
    marking_ends _ _ _ c.requires.orderly c.requires.ordering _ c.requires.in_range _ _ (subst P done c.loop-j.invariant)
