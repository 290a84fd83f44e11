use Rattle.order_certificates.proofs.Going.{rows_more, rows_over}
use Rattle.order_certificates.proofs.orders.next_row.Goals as goal

pub returns-in_ok-turn-in-Some-clause-text : goal.returns-in_ok-turn-in-Some-clause-text
returns-in_ok-turn-in-Some-clause-text c =
    rows_more c.args.analysis.now.set c.args.analysis.now.periods c.args.i c.in-Some.a c.args.lets.now c.turn.new.self c.in_ok-row-in-Some.row c.args.line.now.items
    c.in-Some.ensures.period c.in_ok-row-in-Some.ensures.period c.in_ok-row-in-Some.ensures.place c.in_ok-row-in-Some.ensures.next c.in_ok-turn-in-Some.ensures

pub returns-in_ok-extend_from_slice-in-None-clause-text : goal.returns-in_ok-extend_from_slice-in-None-clause-text
returns-in_ok-extend_from_slice-in-None-clause-text c =
    rows_over c.args.analysis.now.set c.args.analysis.now.periods c.args.i c.args.lets.now c.args.line.now.items c.extend_from_slice.new.self.items
    c.in-None.ensures.period c.in_ok-extend_from_slice-in-None.ensures.items

pub returns-in_ok-turn-in-Some-clause-stage : goal.returns-in_ok-turn-in-Some-clause-stage
returns-in_ok-turn-in-Some-clause-stage c = c.in_ok-row-in-Some.ensures.row c.turn.new.self
