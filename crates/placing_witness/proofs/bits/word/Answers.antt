use Rattle.std.proofs.Common.{◌+◌, ◌-◌, arith}
use Rattle.order_laws.specs.Tables.{is_strict}
use Rattle.placing_witness.specs.Bits.{entry_at}
use Rattle.placing_witness.proofs.Words.{word_below, word_next, flag_most}
use Rattle.placing_witness.proofs.bits.word.Goals as goal

pub overflow_mul-word : goal.overflow_mul-word
overflow_mul-word c =
    record { fits = omega (arith, c.loop-k.invariant, word_below c.args.row.now (c.args.from + (64 - c.loop-k.k)) c.loop-k.k c.loop-k-test.true) }

pub overflow_add-word : goal.overflow_add-word
overflow_add-word c =
    record { fits = omega (arith, c.loop-k.invariant, c.bit.ensures, flag_most (is_strict (entry_at c.args.row.now (c.args.from + (63 - c.loop-k.k)))), word_below c.args.row.now (c.args.from + (64 - c.loop-k.k)) c.loop-k.k c.loop-k-test.true) }

pub loop-k-preserved : goal.loop-k-preserved
loop-k-preserved c =
    word_next c.args.row.now c.args.from c.loop-k.k c.loop-k.word c.bit.result c.loop-k-test.true c.loop-k.invariant c.bit.ensures
