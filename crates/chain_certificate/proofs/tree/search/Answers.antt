use Rattle.std.proofs.Common.{false, ◌+◌, ◌*◌, ◌∙◌, refl, arith}
use Rattle.chain_certificate.specs.Routes.{points_of, links_of}
use Rattle.chain_certificate.proofs.Taking.{searching_all, restored}
use Rattle.chain_certificate.proofs.Whole.{search_begins, steps_begin, readable_of}
use Rattle.chain_certificate.proofs.tree.search.Goals as goal

pub take_orders-requires-clause-searching : goal.take_orders-requires-clause-searching
take_orders-requires-clause-searching g c =
    search_begins (points_of c.args.set.now) (2 * c.extents.result + c.len.result) (links_of c.args.set.now) c.args.source _ _
    (record { point = c.args.source; strict = false; parent = 0; order = 0 }) refl
    (rw c.new-nodes.ensures.items at c.in_ok-push.ensures.items)
    (c.as_mut_slice-node_of.ensures.value ∙ c.in_ok-kept.ensures.items_if_clones_equal (λ y e. e))
    (omega (arith, c.extents.ensures, (rw c.dates.ensures at c.len.ensures)))
    c.requires.in_range

pub returns-in_err-take_orders-clause-cost : goal.returns-in_err-take_orders-clause-cost
returns-in_err-take_orders-clause-cost g c =
    let all = steps_begin c.args.set.now c.args.edges.now (2 * c.extents.result + c.len.result) c.args.source c.push.new.self.items c.as_mut_slice-node_of.result.now
    (record { point = c.args.source; strict = false; parent = 0; order = 0 }) c.conditions.ensures c.requires.edges refl
    (rw c.new-nodes.ensures.items at c.in_ok-push.ensures.items)
    (c.as_mut_slice-node_of.ensures.value ∙ c.in_ok-kept.ensures.items_if_clones_equal (λ y e. e))
    (omega (arith, c.extents.ensures, (rw c.dates.ensures at c.len.ensures)))
    c.requires.in_range in
    omega (arith, all, c.in_err-take_orders.ensures.cost)

pub loop-head-init : goal.loop-head-init
loop-head-init g c =
    let all = steps_begin c.args.set.now c.args.edges.now (2 * c.extents.result + c.len.result) c.args.source c.push.new.self.items c.as_mut_slice-node_of.result.now
    (record { point = c.args.source; strict = false; parent = 0; order = 0 }) c.conditions.ensures c.requires.edges refl
    (rw c.new-nodes.ensures.items at c.in_ok-push.ensures.items)
    (c.as_mut_slice-node_of.ensures.value ∙ c.in_ok-kept.ensures.items_if_clones_equal (λ y e. e))
    (omega (arith, c.extents.ensures, (rw c.dates.ensures at c.len.ensures)))
    c.requires.in_range in
    (omega arith, c.in_ok-take_orders.ensures.searching, omega (arith, all, c.in_ok-take_orders.ensures.left, c.in_ok-take_orders.ensures.steps))

pub returns-clause-whole : goal.returns-clause-whole
returns-clause-whole g c =
    rw (restored c.in_ok-kept.kept.len c.loop-head.node_of c.in_ok-kept.kept.items
    (omega (arith, c.loop-head.invariant.1.tree.size, c.in_ok-kept.ensures.len, c.extents.ensures, (rw c.dates.ensures at c.len.ensures))))
    (searching_all _ _ _ _ _ _ c.loop-head.invariant.1 (omega (arith, c.len-in-loop-head.ensures, c.loop-head-test.false)))

pub returns-clause-readable : goal.returns-clause-readable
returns-clause-readable g c =
    rw (restored c.in_ok-kept.kept.len c.loop-head.node_of c.in_ok-kept.kept.items
    (omega (arith, c.loop-head.invariant.1.tree.size, c.in_ok-kept.ensures.len, c.extents.ensures, (rw c.dates.ensures at c.len.ensures))))
    (readable_of _ _ _ _ _ _ c.loop-head.invariant.1)
