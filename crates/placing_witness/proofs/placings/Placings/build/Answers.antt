use Rattle.std.proofs.Common.{◌*◌, length, arith, ap}
use Rattle.std.proofs.lemmas.Grind.{div_ceil_times}
use Rattle.placing_witness.proofs.InRange.{length_points}
use Rattle.placing_witness.proofs.Final.{boundaries_in, prepared_is}
use Rattle.placing_witness.proofs.placings.Placings.build.Goals as goal

pub lower_rows-requires-clause-boundaries : goal.lower_rows-requires-clause-boundaries
lower_rows-requires-clause-boundaries c =
    omega (arith, ap length c.deref.ensures.value, boundaries_in c.args.set.now c.in_ok-base.base.points.items c.in_ok-base.ensures.listed, c.extents.ensures)

pub lower_rows-requires-clause-words : goal.lower_rows-requires-clause-words
lower_rows-requires-clause-words c =
    let times = div_ceil_times c.len.result 64 (omega arith) in
    omega (arith, c.div_ceil-words.ensures, times.1, c.len.ensures, length_points c.in_ok-base.base.points.items c.args.set.now.extents (length c.args.set.now.dates) c.in_ok-base.ensures.listed, c.conditions.ensures.few_extents, c.conditions.ensures.few_dates)

pub invariant_of-result : goal.invariant_of-result
invariant_of-result c =
    let times = div_ceil_times c.len.result 64 (omega arith) in
    prepared_is c.args.set.now c.args.closure.now c.in_ok-base.base.points.items c.in_ok-base.base.floors.items c.div_ceil-words.result c.in_ok-lower.lower.items c.in_ok-base.base.positions.items
    c.deref.result.now (2 * c.extents.result) c.in_ok-base.ensures
    (omega (arith, c.div_ceil-words.ensures, times.1, c.len.ensures, length_points c.in_ok-base.base.points.items c.args.set.now.extents (length c.args.set.now.dates) c.in_ok-base.ensures.listed, c.conditions.ensures.few_extents, c.conditions.ensures.few_dates))
    (omega (arith, c.div_ceil-words.ensures, times.0, c.len.ensures))
    c.deref.ensures.value (omega (arith, c.extents.ensures)) c.in_ok-lower.ensures
