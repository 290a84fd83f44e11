use Rattle.std.proofs.Common.{◌<◌, length}
use Rattle.order_certificates.specs.Keeping.{IsWay}
use Rattle.order_certificates.proofs.shared_routes.climb.Given as goal

abbrev pub invariant-up : goal.invariant-up
invariant-up l = (0 < l.at) × (l.at < length l.routes.nodes) × IsWay l.routes.nodes l.fn.node l.passed.items l.at

abbrev pub decreases-up : goal.decreases-up
decreases-up l = l.at
