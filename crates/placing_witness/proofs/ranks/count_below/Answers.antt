use Rattle.std.proofs.Common.{◌∙◌, ℕ, length, get_or, arith, ap}
use Rattle.std.specs.Prelude.{◌&&◌, ◌==◌}
use Rattle.std.proofs.lemmas.List.{get_or-replicate, length-replicate}
use Rattle.order_closure.specs.Rows.{bit_of}
use Rattle.placing_witness.proofs.InRange.{point_in_range, length_points}
use Rattle.placing_witness.proofs.Tallied.{below_next}
use Rattle.placing_witness.proofs.Words.{flag_most}
use Rattle.placing_witness.proofs.ranks.count_below.Goals as goal

pub loop-q-init : goal.loop-q-init
loop-q-init c =
    let zeros = c.as_mut_slice-counts.ensures.value ∙ c.in_ok-kept.ensures.items_if_clones_equal (λ y h. h) in (
      ap length zeros ∙ length-replicate c.args.boundaries 0,
      (λ n h. ap (λ ks. get_or ks n 0) zeros ∙ get_or-replicate c.args.boundaries n 0 0 h),
      (λ n h. omega (arith, ap (λ ks. get_or ks n 0) zeros, get_or-replicate {A = ℕ} c.args.boundaries n 0 0 h)),
    )

pub lt_row-requires : goal.lt_row-requires
lt_row-requires c = point_in_range c.args.points.now _ _ c.loop-q.q _ c.requires.points c.loop-q-test.true

pub tally_level-requires-clause-row : goal.tally_level-requires-clause-row
tally_level-requires-clause-row c =
    omega (
      arith,
      c.loop-q.invariant.0,
      c.requires.boundaries,
      length_points c.args.points.now c.args.closure.now.extents c.args.closure.now.dates c.requires.points,
      c.lt_row.ensures.size,
    )

pub tally_level-requires-clause-few : goal.tally_level-requires-clause-few
tally_level-requires-clause-few c = λ n h.
    omega (arith, c.loop-q.invariant.2 n (omega (arith, h, c.loop-q.invariant.0)), c.loop-q-test.true, c.requires.few)

pub loop-q-preserved : goal.loop-q-preserved
loop-q-preserved c = (
  c.tally_level.ensures.size ∙ c.loop-q.invariant.0,
  (λ n h. below_next c.args.closure.now c.args.points.now c.requires.points c.lt_row.result.now c.loop-q.q c.lt_row.ensures.bits n (get_or c.loop-q.counts n 0) (get_or c.tally_level.new.counts n 0)
      (omega (arith, h, c.requires.boundaries)) c.args.floors.now (c.loop-q.invariant.1 n h)
      (c.tally_level.ensures.counts n (omega (arith, h, c.loop-q.invariant.0)))),
  (λ n h. omega (
    arith,
    c.loop-q.invariant.2 n h,
    c.tally_level.ensures.counts n (omega (arith, h, c.loop-q.invariant.0)),
    flag_most (bit_of c.lt_row.result.now 0 n && (get_or c.args.floors.now c.loop-q.q 0 == get_or c.args.floors.now n 0)),
  )),
)
