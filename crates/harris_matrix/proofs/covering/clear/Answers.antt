use Rattle.std.proofs.Common.{arith, ◌+◌, ◌/◌, ◌%◌, ◌<◌, ◌==◌, ◌∙◌, ap}
use Rattle.std.specs.Int.{bit_at}
use Rattle.std.proofs.lemmas.Nat.Bits.{bit_at-zero}
use Rattle.order_closure.proofs.Joining.{word_within}
use Rattle.harris_matrix.proofs.covering.clear.Goals as goal

pub returns : goal.returns
returns c = λ j h.
    (let within : 0 + j / 64 < c.loop-k.k = omega (arith, word_within c.args.count j h, c.row_width-k-end.ensures, c.loop-k-test.false) in
    ap (λ n. bit_at n (j % 64) == 1) (c.loop-k.invariant.none (0 + j / 64) within) ∙ ap (λ n. n == 1) (bit_at-zero (j % 64)))
