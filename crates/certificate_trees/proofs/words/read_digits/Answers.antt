use Rattle.std.proofs.Common.{arith, ◌+◌}
use Rattle.certificate_trees.proofs.Pieces.{number_begun, number_more, within_text}
use Rattle.certificate_trees.proofs.words.read_digits.Goals as goal

pub digits-init : goal.digits-init
digits-init c = record {
  read = number_begun c.args.text.now c.args.at c.in-Some.first c.in-Some.ensures.digit.0 c.in-Some.ensures.digit.1;
  bounded = omega (arith, c.in-Some.ensures.digit.0, c.requires.digit);
  moves = omega arith;
}

pub digits-smaller : goal.digits-smaller
digits-smaller c = omega (arith, within_text c.args.text.now c.digits.to (48 + c.in-Some-digit_at.digit) c.in-Some-digit_at.ensures.digit.1)

pub digits-preserved : goal.digits-preserved
digits-preserved c = record {
  read = number_more c.args.text.now c.args.at c.digits.to c.digits.value c.in-Some-digit_at.digit c.in-Some-extended.more c.digits.invariant.read
      c.in-Some-extended.ensures.more.0 c.in-Some-digit_at.ensures.digit.0 c.in-Some-extended.ensures.more.1 (omega (arith, c.in-Some-extended.ensures.more.2, c.ranges.bound.fits)) c.in-Some-digit_at.ensures.digit.1;
  bounded = c.in-Some-extended.ensures.more.2;
  moves = omega (arith, c.digits.invariant.moves);
}
