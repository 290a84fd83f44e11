use Rattle.std.proofs.Common.{length}
use Rattle.order_certificates.proofs.Tables.{IsDescent}
use Rattle.order_certificates.proofs.shared_routes.share_node.Given as goal

abbrev pub invariant-down : goal.invariant-down
invariant-down l = IsDescent l.routes.nodes l.fn.lets l.fn.node l.fn.line.items l.passed.items l.part l.parts.items l.lets l.line.items

abbrev pub decreases-down : goal.decreases-down
decreases-down l = length l.passed.items
