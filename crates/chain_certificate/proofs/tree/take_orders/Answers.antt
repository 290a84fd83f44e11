use Rattle.std.proofs.Common.{◌≡◌, ℕ, ◌+◌, ◌<◌, ◌∙◌, List, drop, get_or, arith, sym, subst, ap}
use Rattle.order_laws.specs.declared.Order.{Order}
use Rattle.order_laws.specs.Chains.{order_at, no_order}
use Rattle.order_laws.specs.Points.{number_of}
use Rattle.order_closure.specs.Search.{place}
use Rattle.chain_certificate.specs.declared.tree.Node.{Node}
use Rattle.chain_certificate.specs.Counts.{leaves}
use Rattle.chain_certificate.specs.Routes.{points_of, links_of}
use Rattle.chain_certificate.specs.Tree.{node_at, pair_at, pair_of, IsTaking}
use Rattle.chain_certificate.proofs.Steps.{read_node, take_none, take_more, take_all}
use Rattle.chain_certificate.proofs.tree.take_orders.Goals as goal

pub loop-n-init : goal.loop-n-init
loop-n-init g c =
    let first = take_none c.args.set.now c.args.edges.now c.requires.edges c.args.source c.args.nodes.now.items c.args.node_of.now c.args.head
    c.at-walk.result c.extents-extents.result c.point_at.result c.index-from.result.now c.requires.head c.index-from.ensures
    c.extents-extents.ensures c.point_at.ensures.number c.at-walk.ensures.first c.requires.searching in
    (first.0, omega (arith, first.1), omega arith)

pub loop-n-preserved : goal.loop-n-preserved
loop-n-preserved g c =
    let found = c.in-Some.ensures.found in
    let lows = c.args.edges.now.lows in
    let from = c.index-from.result.now in
    let order : Order = get_or c.as_slice.result.now c.in-Some.n no_order in
    let is_order : order ≡ order_at c.args.set.now.list c.in-Some.n = ap (λ (l : List Order). get_or l c.in-Some.n no_order) (c.as_slice.ensures ∙ c.orders.ensures) in
    let is_high : c.number-point.result ≡ number_of c.args.set.now.extents order.high =
    c.number-point.ensures.value ∙ ap (λ (e : ℕ). number_of e order.high) c.extents-extents.ensures in
    let in_high : c.number-point.result < points_of c.args.set.now =
    omega (arith, c.number-point.ensures.in_range, c.extents-extents.ensures, (rw c.dates.ensures at c.len-dates.ensures)) in
    let P : ℕ → Type 0 = λ n. IsTaking (points_of c.args.set.now) (links_of c.args.set.now) c.args.source c.loop-n.nodes.items c.loop-n.node_of c.args.head n from.point from.strict in
    let more = take_more c.args.set.now c.args.edges.now c.requires.edges c.args.source c.loop-n.nodes.items c.loop-n.node_of c.args.head
    c.in-Some.n c.next.new.self from.point from.strict order c.number-point.result c.either-strict.result
    (subst P (sym found.0) c.loop-n.invariant.0) found.1 found.2 is_order is_high in_high c.either-strict.ensures in
    let is_from : node_at c.args.nodes.now.items c.args.head ≡ from = read_node c.args.nodes.now.items c.args.head from c.requires.head c.index-from.ensures in
    let Q : Node → Type 0 = λ z. leaves (drop c.in-Some.n lows) (place (pair_of z)) ≡ 1 + leaves (drop c.next.new.self lows) (place (pair_of z)) in
    let R : ℕ → Type 0 = λ n. leaves (drop n lows) (place (pair_at c.args.nodes.now.items c.args.head)) ≡ 1 + leaves (drop c.next.new.self lows) (place (pair_at c.args.nodes.now.items c.args.head)) in
    let one : R c.loop-n.walk = subst R found.0 (subst Q (sym is_from) more.1) in (
      rw (c.in_ok-meet.ensures.nodes, c.in_ok-meet.ensures.node_of) more.0,
      omega (arith, one, c.loop-n.invariant.1, c.in-Some.ensures.counted),
      rw (c.in_ok-meet.ensures.nodes, c.in_ok-meet.ensures.node_of) (more.2 ∙ c.loop-n.invariant.2),
    )

pub returns-clause-searching : goal.returns-clause-searching
returns-clause-searching g c =
    take_all c.args.set.now c.args.edges.now c.requires.edges c.args.source c.loop-n.nodes.items c.loop-n.node_of c.args.head
    c.loop-n.walk c.index-from.result.now.point c.index-from.result.now.strict c.loop-n.invariant.0 c.in_default.ensures.ended.0
