use Rattle.crm_matrix.proofs.Matrices.{matrix_is}
use Rattle.crm_matrix.proofs.matrix_report.build_matrix.Goals as goal

pub returns : goal.returns
returns c =
    matrix_is c.args.set.now.list c.args.periods.now
    (c.cells_are_strictly_ordered.ensures c.args.set.now.list c.args.set.now.extents c.args.set.now.dates c.args.periods.now
    c.conditions.ensures.orders c.requires.consistent c.requires.periods)
    c.in_ok-matrix.matrix c.in_ok-matrix.ensures
