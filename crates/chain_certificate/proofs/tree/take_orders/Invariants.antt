use Rattle.std.proofs.Common.{◌≡◌, length, drop, ◌+◌, ◌-◌}
use Rattle.order_closure.specs.Search.{place}
use Rattle.chain_certificate.specs.Counts.{leaves, steps_left}
use Rattle.chain_certificate.specs.Routes.{points_of, links_of}
use Rattle.chain_certificate.specs.Tree.{IsTaking, pair_at}
use Rattle.chain_certificate.proofs.tree.take_orders.Given as goal

abbrev pub invariant-loop-n : goal.invariant-loop-n
invariant-loop-n g l =
    IsTaking (points_of l.set) (links_of l.set) l.source l.nodes.items l.node_of l.head l.walk l.from.point l.from.strict
    × (l.steps + leaves (drop l.walk l.edges.lows) (place (pair_at l.fn.nodes.items l.head))
    ≡ l.fn.steps + leaves l.edges.lows (place (pair_at l.fn.nodes.items l.head)))
    × (steps_left l.edges.lows l.source l.nodes.items l.node_of (l.head + 1)
    ≡ steps_left l.edges.lows l.source l.fn.nodes.items l.fn.node_of (l.head + 1))

abbrev pub decreases-loop-n : goal.decreases-loop-n
decreases-loop-n g l = length l.edges.lows - l.walk
