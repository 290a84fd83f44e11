use Rattle.std.proofs.Common.{arith, ◌<◌, ◌+◌, ◌*◌, ℕ, Bool, length, get_or}
use Rattle.order_laws.specs.declared.Point.TheVariants.{Start}
use Rattle.order_laws.specs.Closure.{reach_between}
use Rattle.order_closure.specs.Rows.{bit_of}
use Rattle.order_closure.proofs.Joining.{word_within}
use Rattle.harris_matrix.specs.Cells.{ends_before}
use Rattle.harris_matrix.proofs.Marking.{marked_more}
use Rattle.harris_matrix.proofs.finding.mark_rows.Goals as goal

pub mark_row-requires-clause-extents : goal.mark_row-requires-clause-extents
mark_row-requires-clause-extents c = λ k d h. omega (arith, c.requires.least k d h, c.conditions.ensures.few_extents)

pub mark_row-requires-clause-wide : goal.mark_row-requires-clause-wide
mark_row-requires-clause-wide c = λ j h.
    (let own = c.requires.least j 0 h in
    let below : 2 * get_or c.args.least.now j 0 < 2 * c.args.set.now.extents + length c.args.set.now.dates = omega (arith, own) in
    omega (arith, word_within (2 * c.args.set.now.extents + length c.args.set.now.dates) (2 * get_or c.args.least.now j 0) below, c.known_row-row.ensures.size))

pub loop-i-preserved : goal.loop-i-preserved
loop-i-preserved c =
    let bits : ℕ → Bool = λ j. bit_of c.known_row-row.result.now 0 (2 * get_or c.args.least.now j 0) in
    marked_more (ends_before (reach_between c.args.set.now.list)) c.args.least.now c.loop-i.i c.loop-i.words c.mark_row.new.words bits
    c.loop-i.invariant c.mark_row.ensures (λ j h. c.known_row-row.ensures.each (Start (get_or c.args.least.now j 0)) (c.requires.least j 0 h))
