use Rattle.std.proofs.Common.{◌+◌, take}
use Rattle.certificate_trees.specs.Reads.{IsRead}
use Rattle.certificate_trees.proofs.words.read_word.Given as goal

abbrev pub invariant-loop-k : goal.invariant-loop-k
invariant-loop-k l = IsRead l.text l.at (l.at + l.k) (take l.k l.word)
