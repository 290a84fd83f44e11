use Rattle.std.proofs.Common.{length, get_or, arith, ap}
use Rattle.placing_witness.proofs.InRange.{length_points}
use Rattle.placing_witness.proofs.placings.delaying.Goals as goal

pub count_between-requires-clause-few : goal.count_between-requires-clause-few
count_between-requires-clause-few c =
    omega (arith, ap length c.deref-2.ensures.value, length_points c.in_ok-base.base.points.items c.args.set.now.extents (length c.args.set.now.dates) c.in_ok-base.ensures.listed, c.conditions.ensures.few_extents, c.conditions.ensures.few_dates)

pub delay_from-requires-clause-few : goal.delay_from-requires-clause-few
delay_from-requires-clause-few c = λ n h.
    omega (
      arith,
      ap (λ ks. get_or ks n 0) c.deref-5.ensures.value,
      c.in_ok-counts.ensures.few n (omega (arith, h, ap length c.deref-5.ensures.value, c.in_ok-counts.ensures.size)),
      ap length c.deref-2.ensures.value,
      length_points c.in_ok-base.base.points.items c.args.set.now.extents (length c.args.set.now.dates) c.in_ok-base.ensures.listed,
      c.conditions.ensures.few_extents,
      c.conditions.ensures.few_dates,
    )
