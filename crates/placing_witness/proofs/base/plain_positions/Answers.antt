use Rattle.std.proofs.Common.{rules, get_or, of_z, to_z, ◌≡◌, ◌∙◌, ◌<◌, length, arith, ap, sym}
use Rattle.std.proofs.lemmas.Int.{to_z-of_z}
use mir.Syntax.{w128}
use Rattle.order_laws.specs.Tables.{built_at, all_points}
use Rattle.order_closure.specs.Closures.{between}
use Rattle.placing_witness.proofs.Sharing.{floor_low, position_built, plain_next}
use Rattle.placing_witness.proofs.base.plain_positions.Goals as goal

pub instant-requires-clause-floor : goal.instant-requires-clause-floor
instant-requires-clause-floor c =
    floor_low (between c.args.closure.now) (length c.args.dates.now) c.args.points.now c.args.floors.now c.loop-n.n c.requires.floors (omega (arith, c.loop-n-test.true, c.requires.boundaries))

pub loop-n-preserved : goal.loop-n-preserved
loop-n-preserved c =
    let here : c.loop-n.n < length c.args.points.now = omega (arith, c.loop-n-test.true, c.requires.boundaries) in
    let listed : c.args.points.now ≡ all_points c.args.closure.now.extents (length c.args.dates.now) =
    c.requires.points ∙ ap (all_points c.args.closure.now.extents) (sym c.requires.dates) in
    let rank : get_or c.as_slice-below.result.now c.loop-n.n 0 ≡ get_or c.in_ok-kept.kept.items c.loop-n.n 0 = ap (λ ks. get_or ks c.loop-n.n 0) c.as_slice-below.ensures.value in
    c.in_ok-push.ensures.items
    ∙ plain_next (built_at c.args.closure.now.extents c.args.dates.now (between c.args.closure.now)) c.args.points.now c.loop-n.n c.loop-n.positions.items
    (record { instant = to_z w128 (of_z w128 c.instant.result); rank = get_or c.as_slice-below.result.now c.loop-n.n 0 }) here c.loop-n.invariant
    (position_built c.args.closure.now.extents c.args.dates.now (between c.args.closure.now) c.args.points.now c.args.floors.now c.loop-n.n
    (to_z w128 (of_z w128 c.instant.result)) (get_or c.as_slice-below.result.now c.loop-n.n 0) listed here c.requires.floors
    (to_z-of_z w128 c.instant.result (search rules) ∙ c.instant.ensures) (rank ∙ c.in_ok-kept.ensures.counts c.loop-n.n c.loop-n-test.true))
