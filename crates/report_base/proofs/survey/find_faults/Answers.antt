use Rattle.report_base.proofs.survey.find_faults.Goals as goal

pub returns : goal.returns
returns c = rw c.in_ok-pool.ensures at c.faults.ensures
