use Rattle.placing_witness.proofs.InRange.{point_in_range}
use Rattle.placing_witness.proofs.rows.column_to.Goals as goal

pub between-requires-clause-x_in_range : goal.between-requires-clause-x_in_range
between-requires-clause-x_in_range c = point_in_range c.args.points.now _ _ c.loop-n.n _ c.requires.points c.loop-n-test.true
