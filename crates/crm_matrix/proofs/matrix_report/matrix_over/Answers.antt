use Rattle.crm_matrix.proofs.matrix_report.matrix_over.Goals as goal

pub build_matrix-requires-clause-closure : goal.build_matrix-requires-clause-closure
build_matrix-requires-clause-closure c = rw c.set.ensures c.closure.ensures

pub build_matrix-requires-clause-consistent : goal.build_matrix-requires-clause-consistent
build_matrix-requires-clause-consistent c = rw c.set.ensures c.requires.consistent

pub build_matrix-requires-clause-periods : goal.build_matrix-requires-clause-periods
build_matrix-requires-clause-periods c = rw (c.set.ensures, c.periods.ensures.periods) c.periods.ensures.within

pub build_matrix-requires-clause-few : goal.build_matrix-requires-clause-few
build_matrix-requires-clause-few c = rw c.periods.ensures.periods c.requires.few

pub returns : goal.returns
returns c = rw (c.set.ensures, c.periods.ensures.periods) at c.build_matrix.ensures
