use Rattle.order_certificates.proofs.Tables.{first_kept}
use Rattle.order_certificates.proofs.shared_routes.part_at.Goals as goal

pub returns-in-Some-clause-some : goal.returns-in-Some-clause-some
returns-in-Some-clause-some c = λ lets kept. kept.kept c.args.at c.in-Some.part (let is = c.in-Some.is in cc)

pub returns-then-last-eq0-clause-some : goal.returns-then-last-eq0-clause-some
returns-then-last-eq0-clause-some c = λ lets kept.
    first_kept c.args.routes.now.nodes lets c.args.at c.last_step-last.result.before c.last_step-last.result.order c.last_step-last.ensures.chain c.if-last-eq0.true
