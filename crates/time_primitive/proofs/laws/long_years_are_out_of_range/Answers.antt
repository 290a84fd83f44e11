use Rattle.std.proofs.Common.{length, arith}
use Rattle.time_primitive.proofs.Digits.{four_digits, more_digits}
use Rattle.time_primitive.proofs.laws.long_years_are_out_of_range.Goals as goal

pub returns-clause-more : goal.returns-clause-more
returns-clause-more c = λ digits first l. more_digits digits (length digits) first l

pub returns-clause-few : goal.returns-clause-few
returns-clause-few c = λ digits are l. four_digits digits (length digits) are (omega arith) l
