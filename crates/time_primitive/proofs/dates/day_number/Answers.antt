use Rattle.std.proofs.Common.{◌≡◌, arith}
use Rattle.std.specs.Prelude.{pos}
use Rattle.std.proofs.lemmas.Int.{ints}
use Rattle.time_primitive.proofs.Calendar.{month_end}
use Rattle.time_primitive.proofs.dates.day_number.Goals as goal

pub returns-in-GYearMonth-Upper-clause-value : goal.returns-in-GYearMonth-Upper-clause-value
returns-in-GYearMonth-Upper-clause-value c =
    let years : c.date-first.result.year ≡ c.args.year = omega (arith, ints, c.date-first.ensures.0) in
    let months : pos c.date-first.result.month ≡ pos c.args.parts.month = omega (arith, ints, c.date-first.ensures.1) in
    let is = month_end c.args.year c.args.parts.month c.date-first.result c.last_of_month.result c.number_of-in-GYearMonth-Upper.result
    years months c.last_of_month.ensures c.number_of-in-GYearMonth-Upper.ensures.value in
    rw (c.in-GYearMonth-Upper.is-0, c.in-GYearMonth-Upper.is-1) (omega (arith, ints, is))
