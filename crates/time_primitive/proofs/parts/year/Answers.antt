use Rattle.std.proofs.Common.{drop, sym, subst}
use Rattle.time_primitive.specs.Parts.{AreDigits, sign_length}
use Rattle.time_primitive.proofs.Digits.{front_digits}
use Rattle.time_primitive.proofs.parts.year.Goals as goal

pub number-number-requires-clause-digits : goal.number-number-requires-clause-digits
number-number-requires-clause-digits c =
    subst AreDigits (sym c.year_digits_of-digits.ensures) (front_digits (drop (sign_length c.args.text.now) c.args.text.now))
