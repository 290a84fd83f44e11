use Rattle.std.proofs.Common.{rules}
use Rattle.certificate_trees.proofs.Pieces.{word_more}
use Rattle.certificate_trees.proofs.WordReads.{word_stopped}
use Rattle.certificate_trees.proofs.words.read_word.Goals as goal

pub loop-k-preserved : goal.loop-k-preserved
loop-k-preserved c = word_more c.args.text.now c.args.word.now c.args.at c.loop-k.k c.loop-k.invariant c.loop-k-test.true (search rules)

pub returns-then-not-stands_at-clause-refused : goal.returns-then-not-stands_at-clause-refused
returns-then-not-stands_at-clause-refused c = word_stopped c.args.text.now c.args.word.now c.args.at c.loop-k.k c.loop-k.invariant c.loop-k-test.true
    (λ e. absurd (cc (c.stands_at.ensures.stands.1 e, c.if-not-stands_at.true)))
