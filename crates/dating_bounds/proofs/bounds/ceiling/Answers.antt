use Rattle.std.proofs.Common.{◌+◌, ◌-◌, ◌/◌, length, arith, sym, ◌∙◌}
use Rattle.order_closure.specs.Closures.{between}
use Rattle.dating_bounds.proofs.Agreeing.{between_orderly}
use Rattle.dating_bounds.proofs.Halves.{ceiling_is, known_from, unknown_so_far}
use Rattle.dating_bounds.proofs.bounds.ceiling.Goals as goal

pub loop-low-preserved-then-follows : goal.loop-low-preserved-then-follows
loop-low-preserved-then-follows c = record {
  order = omega arith;
  top = omega (arith, c.loop-low.invariant.top);
  below = c.loop-low.invariant.below;
  above = known_from c.args.set.now.list c.args.set.now.extents c.args.set.now.dates (between c.args.closure.now) c.requires.closure.of_set.orders
      (between_orderly c.args.set.now c.args.closure.now c.requires.closure c.requires.consistent) c.args.p c.requires.in_range
      (c.loop-low.low + (c.loop-low.high - c.loop-low.low) / 2) (sym c.follows.ensures ∙ c.if-follows.true);
}

pub loop-low-preserved : goal.loop-low-preserved
loop-low-preserved c = record {
  order = omega arith;
  top = c.loop-low.invariant.top;
  below = unknown_so_far c.args.set.now.list c.args.set.now.extents c.args.set.now.dates (between c.args.closure.now) c.requires.closure.of_set.orders
      (between_orderly c.args.set.now c.args.closure.now c.requires.closure c.requires.consistent) c.args.p c.requires.in_range
      (c.loop-low.low + (c.loop-low.high - c.loop-low.low) / 2) (omega (arith, c.loop-low.invariant.top)) (sym c.follows.ensures ∙ c.if-follows.false);
  above = c.loop-low.invariant.above;
}

pub returns-clause-value : goal.returns-clause-value
returns-clause-value c =
    sym (ceiling_is (between c.args.closure.now) c.args.p (length c.args.set.now.dates) c.loop-low.low
    (omega (arith, c.loop-low.invariant.order, c.loop-low.invariant.top))
    c.loop-low.invariant.below
    (λ k h l. c.loop-low.invariant.above k (omega arith) l))
