use Rattle.std.proofs.Common.{get_or, map, ◌≡◌, ◌∙◌, ◌<◌, length, arith, ap}
use Rattle.order_laws.specs.declared.Point.TheVariants.{Start}
use Rattle.order_closure.specs.Closures.{between}
use Rattle.placing_witness.specs.Bits.{words_of}
use Rattle.placing_witness.specs.Prepared.{lower_row}
use Rattle.placing_witness.proofs.InRange.{point_in_range}
use Rattle.placing_witness.proofs.Sharing.{lower_next}
use Rattle.placing_witness.proofs.placings.lower_rows.Goals as goal

pub column_to-requires-clause-in_range : goal.column_to-requires-clause-in_range
column_to-requires-clause-in_range c = point_in_range c.args.points.now _ _ c.loop-n.n _ c.requires.points (omega (arith, c.loop-n-test.true, c.requires.boundaries))

pub loop-n-preserved : goal.loop-n-preserved
loop-n-preserved c =
    let here : c.loop-n.n < length c.args.points.now = omega (arith, c.loop-n-test.true, c.requires.boundaries) in
    let columns : c.in_ok-column.column.items ≡ map (λ q. between c.args.closure.now q (get_or c.args.points.now c.loop-n.n (Start 0))) c.args.points.now = c.in_ok-column.ensures in
    c.in_ok-pack.ensures
    ∙ lower_next (lower_row (between c.args.closure.now) c.args.points.now c.args.words) c.args.points.now c.loop-n.n c.loop-n.lower.items
    (words_of c.deref.result.now c.args.words) here c.loop-n.invariant
    (ap (λ r. words_of r c.args.words) (c.deref.ensures.value ∙ columns))
