use Rattle.std.proofs.Common.{◌∙◌, ◌*◌, length, arith, ap}
use Rattle.order_laws.specs.Tables.{all_points}
use Rattle.placing_witness.proofs.InRange.{length_points}
use Rattle.placing_witness.proofs.Final.{boundaries_in, base_is}
use Rattle.placing_witness.proofs.base.prepare.Goals as goal

pub plain_positions-requires-clause-few : goal.plain_positions-requires-clause-few
plain_positions-requires-clause-few c =
    let same = c.as_slice-dates.ensures ∙ c.dates.ensures in
    let listed = c.in_ok-points.ensures ∙ ap (λ e. all_points e (length c.as_slice-dates.result.now)) c.extents.ensures ∙ ap (λ d. all_points c.args.set.now.extents (length d)) same in
    omega (arith, ap length c.deref-2.ensures.value, length_points c.in_ok-points.points.items c.args.set.now.extents (length c.args.set.now.dates) listed, c.conditions.ensures.few_extents, c.conditions.ensures.few_dates)

pub plain_positions-requires-clause-boundaries : goal.plain_positions-requires-clause-boundaries
plain_positions-requires-clause-boundaries c =
    let same = c.as_slice-dates.ensures ∙ c.dates.ensures in
    let listed = c.in_ok-points.ensures ∙ ap (λ e. all_points e (length c.as_slice-dates.result.now)) c.extents.ensures ∙ ap (λ d. all_points c.args.set.now.extents (length d)) same in
    omega (arith, ap length c.deref-2.ensures.value, boundaries_in c.args.set.now c.in_ok-points.points.items listed, c.extents-2.ensures)

pub returns : goal.returns
returns c =
    let same = c.as_slice-dates.ensures ∙ c.dates.ensures in
    let listed = c.in_ok-points.ensures ∙ ap (λ e. all_points e (length c.as_slice-dates.result.now)) c.extents.ensures ∙ ap (λ d. all_points c.args.set.now.extents (length d)) same in
    base_is c.args.set.now c.args.closure.now c.in_ok-points.points.items c.in_ok-floors.floors.items c.in_ok-positions.positions.items
    c.as_slice-dates.result.now c.deref.result.now c.deref-2.result.now (2 * c.extents-2.result)
    c.requires.closure c.requires.consistent same listed c.deref.ensures.value c.deref-2.ensures.value c.in_ok-floors.ensures
    (omega (arith, c.extents-2.ensures)) c.in_ok-positions.ensures
