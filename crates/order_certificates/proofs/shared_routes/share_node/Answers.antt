use Rattle.std.proofs.Common.{arith}
use Rattle.order_certificates.proofs.Tables.{descent_begins, descent_more, descent_next, descent_ends, nothing_shared}
use Rattle.order_certificates.proofs.shared_routes.share_node.Goals as goal

pub returns-then-node-eq0-clause-part : goal.returns-then-node-eq0-clause-part
returns-then-node-eq0-clause-part c = (nothing_shared c.args.routes.now.nodes c.args.lets.now c.args.node c.args.line.now.items c.if-node-eq0.true).0

pub returns-then-node-eq0-clause-lets : goal.returns-then-node-eq0-clause-lets
returns-then-node-eq0-clause-lets c = (nothing_shared c.args.routes.now.nodes c.args.lets.now c.args.node c.args.line.now.items c.if-node-eq0.true).1

pub returns-then-node-eq0-clause-line : goal.returns-then-node-eq0-clause-line
returns-then-node-eq0-clause-line c = (nothing_shared c.args.routes.now.nodes c.args.lets.now c.args.node c.args.line.now.items c.if-node-eq0.true).2

pub down-init : goal.down-init
down-init c =
    descent_begins c.args.routes.now.nodes c.args.lets.now c.args.node c.args.line.now.items _ _ _ c.deref.result.now c.deref.ensures.value
    c.in_ok-front.ensures c.requires.kept

pub last_step-last-requires-clause-some : goal.last_step-last-requires-clause-some
last_step-last-requires-clause-some c =
    (descent_next c.args.routes.now.nodes _ _ _ c.pop.new.self.items c.in-Some.next _ _ _ _ _ c.in-Some.ensures.items c.down.invariant).0

pub last_step-last-requires-clause-within : goal.last_step-last-requires-clause-within
last_step-last-requires-clause-within c =
    (descent_next c.args.routes.now.nodes _ _ _ c.pop.new.self.items c.in-Some.next _ _ _ _ _ c.in-Some.ensures.items c.down.invariant).1

pub index_mut-requires : goal.index_mut-requires
index_mut-requires c =
    omega (arith, (descent_next c.args.routes.now.nodes _ _ _ c.pop.new.self.items c.in-Some.next _ _ _ _ _ c.in-Some.ensures.items c.down.invariant).2, c.down.parts.ok.0)

pub down-preserved : goal.down-preserved
down-preserved c =
    descent_more c.args.routes.now.nodes c.args.lets.now c.args.node c.args.line.now.items c.pop.new.self.items c.in-Some.next
    c.last_step-last.result.before c.last_step-last.result.order _ _ _ _ _ _ _ _ c.in-Some.ensures.items c.down.invariant
    c.last_step-last.ensures.chain c.last_step-last.ensures.before c.in_ok-part.ensures.part c.in_ok-part.ensures.lets c.in_ok-part.ensures.line

pub returns-clause-kept : goal.returns-clause-kept
returns-clause-kept c = c.down.invariant.table

pub returns-clause-part : goal.returns-clause-part
returns-clause-part c =
    (descent_ends c.args.routes.now.nodes _ _ _ _ _ _ _ c.down.passed.items (omega (arith, c.in_default.ensures.cases.0, c.down.passed.ok.0)) c.down.invariant).0

pub returns-clause-lets : goal.returns-clause-lets
returns-clause-lets c =
    (descent_ends c.args.routes.now.nodes _ _ _ _ _ _ _ c.down.passed.items (omega (arith, c.in_default.ensures.cases.0, c.down.passed.ok.0)) c.down.invariant).1

pub returns-clause-line : goal.returns-clause-line
returns-clause-line c =
    (descent_ends c.args.routes.now.nodes _ _ _ _ _ _ _ c.down.passed.items (omega (arith, c.in_default.ensures.cases.0, c.down.passed.ok.0)) c.down.invariant).2
