use Rattle.std.proofs.Common.{◌≡◌, ◌++◌, subst}
use Rattle.order_core.specs.Sets.{Orders}
use Rattle.order_certificates.specs.OrderCertificates.{delay_places}
use Rattle.order_certificates.proofs.Going.{delays_more, delays_over}
use Rattle.order_certificates.proofs.orders.next_delays.Goals as goal

pub returns-in_ok-append_delays-in-Some-clause-text : goal.returns-in_ok-append_delays-in-Some-clause-text
returns-in_ok-append_delays-in-Some-clause-text c =
    delays_more c.args.analysis.now.set c.args.analysis.now.periods c.args.i c.in-Some.k c.args.line.now.items c.append_delays.new.line.items c.in-Some.ensures.period
    (subst (λ (s : Orders). c.append_delays.new.line.items ≡ c.args.line.now.items ++ delay_places s c.in-Some.k) c.requires.same c.in_ok-append_delays-in-Some.ensures)

pub returns-in-None-clause-text : goal.returns-in-None-clause-text
returns-in-None-clause-text c = delays_over c.args.analysis.now.set c.args.analysis.now.periods c.args.i c.args.line.now.items c.in-None.ensures.period
