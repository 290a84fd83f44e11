use Rattle.std.proofs.lemmas.Result.{err_from_is_err_and}
use Rattle.certificate_checker.proofs.order_judge.OrderJudge.check_claim.Goals as goal

pub returns-in_err-check_fact-in-AtOrBefore-clause-refused : goal.returns-in_err-check_fact-in-AtOrBefore-clause-refused
returns-in_err-check_fact-in-AtOrBefore-clause-refused c =
    let p = err_from_is_err_and c.from_residual.result c.from_residual.ensures.1 in
    rw (p.1, p.2) (c.in_err-check_fact-in-AtOrBefore.ensures.refused c.args.at)
