use Rattle.std.proofs.Common.{◌∙◌, length, arith, ap}
use Rattle.std.proofs.lemmas.List.{length-map}
use Rattle.order_laws.specs.Tables.{floor_of}
use Rattle.order_closure.specs.Closures.{between}
use Rattle.placing_witness.proofs.InRange.{length_points}
use Rattle.placing_witness.proofs.RowBits.{floors_none, floors_raised}
use Rattle.placing_witness.proofs.floors.floors.Goals as goal

pub loop-k-init : goal.loop-k-init
loop-k-init c =
    c.as_mut_slice-floors.ensures.value ∙ c.in_ok-kept.ensures.items_if_clones_equal (λ y h. h)
    ∙ floors_none (between c.args.closure.now) c.args.points.now

pub raise-requires : goal.raise-requires
raise-requires c =
    omega (
      arith,
      ap length c.loop-k.invariant,
      length-map c.args.points.now (floor_of (between c.args.closure.now) c.loop-k.k),
      length_points c.args.points.now c.args.closure.now.extents c.args.closure.now.dates c.requires.points,
      c.le_row.ensures.size,
    )

pub loop-k-preserved : goal.loop-k-preserved
loop-k-preserved c =
    floors_raised c.args.closure.now c.args.points.now c.requires.points c.args.set.now c.loop-k.floors c.raise.new.floors c.le_row.result.now c.loop-k.k
    c.requires.closure (omega (arith, c.loop-k-test.true, c.len-dates.ensures, ap length c.dates.ensures, c.requires.closure.dates))
    c.loop-k.invariant c.le_row.ensures.bits c.raise.ensures.size c.raise.ensures.raised
