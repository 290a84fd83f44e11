use Rattle.std.proofs.Common.{◌≡◌, ◌+◌, ◌*◌, arith}
use Rattle.std.specs.Prelude.{count_ones}
use Rattle.placing_witness.specs.Bits.{count_to}
use Rattle.dating_bounds.specs.Pushed.{is_set_passed}
use Rattle.dating_bounds.proofs.Words.{word_next, count_most}
use Rattle.dating_bounds.proofs.counting.count_words.Goals as goal

pub loop-n-preserved : goal.loop-n-preserved
loop-n-preserved c =
    let test = is_set_passed c.args.rows.now.level.now c.args.rows.now.below.now c.args.rows.now.ahead.now c.args.rows.now.before.now in
    let next : c.loop-n.count + count_ones c.word-passed.result ≡ count_to test (64 * (c.loop-n.n + 1)) =
    word_next c.args.rows.now.level.now c.args.rows.now.below.now c.args.rows.now.ahead.now c.args.rows.now.before.now c.loop-n.n c.loop-n.count c.word-passed.result
    c.loop-n.invariant.0 (omega (arith, c.word-passed.type_inv)) c.word-passed.ensures in
    (next, omega (arith, next, count_most test (64 * (c.loop-n.n + 1))))
