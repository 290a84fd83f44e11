use Rattle.std.proofs.Common.{ℕ, ◌+◌, ap}
use Rattle.order_certificates.proofs.Going.{pairs_more, pairs_over}
use Rattle.order_certificates.proofs.orders.next_pair.Goals as goal

pub returns-in_ok-append_pair-in-Some-clause-stage : goal.returns-in_ok-append_pair-in-Some-clause-stage
returns-in_ok-append_pair-in-Some-clause-stage c =
    let row = c.in_ok-append_pair-in-Some.ensures.row in record { within = row.within; few = row.few; start = row.start; end = row.end }

pub returns-in_ok-append_pair-in-Some-clause-text : goal.returns-in_ok-append_pair-in-Some-clause-text
returns-in_ok-append_pair-in-Some-clause-text c =
    let r = c.append_pair.new.row in
    let now = c.in_ok-append_pair-in-Some.ensures in
    pairs_more c.args.analysis.now.set c.args.analysis.now.periods c.args.row
    (record { period = r.period; place = r.place; next = r.next + 1; from_start = r.from_start; from_end = r.from_end })
    c.in-Some.b c.args.lets.now c.append_pair.new.lets c.args.line.now.items c.append_pair.new.line.items
    c.in-Some.ensures.period now.period now.place (ap (λ (n : ℕ). n + 1) now.next) now.lets now.line

pub returns-in-None-clause-text : goal.returns-in-None-clause-text
returns-in-None-clause-text c =
    pairs_over c.args.analysis.now.set c.args.analysis.now.periods c.args.row c.args.lets.now c.args.line.now.items c.in-None.ensures.period
