use Rattle.report_base.proofs.survey.take_survey.Goals as goal

pub returns-clause-err : goal.returns-clause-err
returns-clause-err c = rw c.in_ok-pool.ensures at c.survey_pool.ensures.err
