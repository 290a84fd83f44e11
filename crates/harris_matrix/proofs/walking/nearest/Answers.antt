use Rattle.harris_matrix.proofs.Measuring.{nearest_more}
use Rattle.harris_matrix.proofs.walking.nearest.Goals as goal

pub loop-c-preserved : goal.loop-c-preserved
loop-c-preserved c =
    nearest_more c.args.pairs.now c.args.lengths.now c.args.from c.loop-c.c c.loop-c.best c.closer-best.result c.loop-c.auto.c c.loop-c.invariant c.closer-best.ensures
