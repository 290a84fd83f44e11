use Rattle.order_certificates.proofs.Tables.{climbed_on}
use Rattle.order_certificates.proofs.shared_routes.climb.Goals as goal

pub returns-in-Some : goal.returns-in-Some
returns-in-Some c = record { at = c.up.at; way = c.up.invariant.2; kept = c.in-Some.ensures.some }

pub up-preserved : goal.up-preserved
up-preserved c =
    climbed_on c.args.routes.now.nodes c.args.node c.up.at c.last_step-last.result.before c.up.passed.items c.push.new.self.items
    c.up.invariant c.in-None.ensures.none c.last_step-last.ensures.before c.last_step-last.ensures.earlier c.in_ok-push-in-None.ensures.items
