use Rattle.std.proofs.Common.{◌∙◌, length, arith, ap}
use Rattle.placing_witness.proofs.InRange.{length_points}
use Rattle.placing_witness.proofs.Final.{placed_is}
use Rattle.placing_witness.proofs.base.delay_from.Goals as goal

pub delays-delay-requires-clause-few : goal.delays-delay-requires-clause-few
delays-delay-requires-clause-few c =
    omega (arith, ap length c.deref.ensures.value, length_points c.args.base.now.points.items c.args.set.now.extents (length c.args.set.now.dates) c.requires.base.listed, c.conditions.ensures.few_extents, c.conditions.ensures.few_dates)

pub positions-requires-clause-low : goal.positions-requires-clause-low
positions-requires-clause-low c =
    omega (arith, c.delays-delay.ensures.low, ap length c.deref.ensures.value, length_points c.args.base.now.points.items c.args.set.now.extents (length c.args.set.now.dates) c.requires.base.listed, c.conditions.ensures.few_extents, c.conditions.ensures.few_dates)

pub positions-requires-clause-few : goal.positions-requires-clause-few
positions-requires-clause-few c =
    omega (arith, c.delays-delay.ensures.few, ap length c.deref.ensures.value, length_points c.args.base.now.points.items c.args.set.now.extents (length c.args.set.now.dates) c.requires.base.listed, c.conditions.ensures.few_extents, c.conditions.ensures.few_dates)

pub returns : goal.returns
returns c =
    c.from_vec.ensures ∙ c.in_ok-placed.ensures
    ∙ placed_is c.args.set.now c.args.closure.now c.args.base.now.points.items c.args.base.now.floors.items c.args.base.now.positions.items
    c.args.x c.delays-delay.result c.args.row.now c.args.counts.now c.as_slice-dates.result.now c.deref.result.now c.deref-3.result.now c.deref-4.result.now
    c.requires.base c.requires.in_range (c.as_slice-dates.ensures ∙ c.dates.ensures) c.deref.ensures.value c.delays-delay.ensures.delay
    c.requires.row c.requires.size c.requires.behind c.deref-3.ensures.value c.deref-4.ensures.value
