use Rattle.std.proofs.Common.{◌≡◌, length, ◌-◌, ◌*◌, ◌+◌, ◌<◌}
use Rattle.chain_certificate.specs.Counts.{steps_left}
use Rattle.chain_certificate.specs.Routes.{points_of, links_of}
use Rattle.chain_certificate.specs.Tree.{IsSearching}
use Rattle.chain_certificate.proofs.tree.search.Given as goal

abbrev pub invariant-loop-head : goal.invariant-loop-head
invariant-loop-head g l =
    (0 < l.head) × IsSearching (points_of l.set) (links_of l.set) l.source l.nodes.items l.node_of l.head 0
    × (l.steps + steps_left l.edges.lows l.source l.nodes.items l.node_of l.head
    ≡ l.fn.steps + (2 * length l.set.list + 2 * points_of l.set))

abbrev pub decreases-loop-head : goal.decreases-loop-head
decreases-loop-head g l = (2 * points_of l.set + 1) - l.head
