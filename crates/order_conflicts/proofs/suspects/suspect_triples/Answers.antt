use Rattle.order_conflicts.specs.Suspects.{is_suspect}
use Rattle.order_conflicts.proofs.Counting.{pushed}
use Rattle.order_conflicts.proofs.suspects.suspect_triples.Goals as goal

pub loop-t-preserved : goal.loop-t-preserved
loop-t-preserved c =
    pushed (is_suspect c.args.analysis.now.set) c.loop-t.t _ c.loop-t.triples.items _
    c.in_ok-passes.ensures c.in_ok-push_where.ensures c.loop-t.invariant
