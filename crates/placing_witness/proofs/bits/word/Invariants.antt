use Rattle.std.proofs.Common.{◌≡◌, ◌+◌, ◌-◌}
use Rattle.placing_witness.specs.Bits.{word_at}
use Rattle.placing_witness.proofs.bits.word.Given as goal

abbrev pub invariant-loop-k : goal.invariant-loop-k
invariant-loop-k l = l.word ≡ word_at l.row (l.from + (64 - l.k)) l.k
