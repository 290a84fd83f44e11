use Rattle.std.proofs.Common.{length}
use Rattle.placing_witness.proofs.Numbered.{number_at}
use Rattle.order_conflicts.proofs.tangles.least_points.Goals as goal

pub is_least-requires-clause-number : goal.is_least-requires-clause-number
is_least-requires-clause-number c =
    number_at c.args.analysis.now.set.extents _ c.args.points.now (length c.args.analysis.now.set.dates) c.loop-k.k c.requires.points c.loop-k-test.true
