use Rattle.std.proofs.Common.{arith, ◌+◌, ◌/◌, ◌<◌, ◌||◌, ◌∙◌, ap}
use Rattle.order_closure.specs.Rows.{bit_of}
use Rattle.order_closure.proofs.Joining.{word_within}
use Rattle.harris_matrix.proofs.Marking.{bit_struck}
use Rattle.harris_matrix.proofs.covering.strike.Goals as goal

pub returns : goal.returns
returns c = λ j h.
    (let within : 0 + j / 64 < c.loop-k.k = omega (arith, word_within c.args.rows.now.count j h, c.row_of-row.ensures.size, c.loop-k-test.false) in
    bit_struck c.args.struck.now c.row_of-row.result.now c.loop-k.struck j (c.loop-k.invariant.joined (0 + j / 64) within)
    ∙ ap (λ b. bit_of c.args.struck.now 0 j || b) (c.row_of-row.ensures.each j h))
