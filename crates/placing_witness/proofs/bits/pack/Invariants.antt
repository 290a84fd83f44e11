use Rattle.std.proofs.Common.{◌≡◌, ◌++◌}
use Rattle.placing_witness.specs.Bits.{words_of}
use Rattle.placing_witness.proofs.bits.pack.Given as goal

abbrev pub invariant-loop-n : goal.invariant-loop-n
invariant-loop-n l = l.words.items ≡ l.initial.words.items ++ words_of l.row l.n
