use Rattle.std.proofs.Common.{◌≡◌, ℕ, arith, refl, sym, ◌∙◌, ℤ, pos, neg_ℤ}
use Rattle.jiff_core.specs.Calendar.{day_count}
use Rattle.jiff_core.proofs.SignedLemmas.{signed_arith}
use Rattle.jiff_core.proofs.CalendarLemmas.{day_count-end, day_count-last_of_year, days_from_civil-day_count, days_in_month_bounds}
use Rattle.calendar_dates.specs.declared.days.CalendarDate.{CalendarDate}
use Rattle.calendar_dates.proofs.Counting.{the, date_is, none_before}
use Rattle.calendar_dates.proofs.days.date_after.Goals as goal

last_before : day_count (neg_ℤ (pos 10000)) 12 31 ≡ 365
last_before = omega (arith, day_count-last_of_year (neg_ℤ (pos 10000)), none_before)

by_parts : (date : CalendarDate) (y : ℤ) (m d : ℕ) → date.year ≡ y → date.month ≡ m → date.day ≡ d → date ≡ the y m d
by_parts date y m d year month day = rw (sym year, sym month, sym day) refl

pub returns-in-365-clause-date : goal.returns-in-365-clause-date
returns-in-365-clause-date c =
    rw c.in-365.is (sym (date_is 365 (neg_ℤ (pos 10000)) 12 31 (record { year = omega (arith, signed_arith); first = omega arith; last = omega arith; begun = omega arith; within = omega arith }) last_before))

pub returns-in-7304850-clause-date : goal.returns-in-7304850-clause-date
returns-in-7304850-clause-date c =
    rw c.in-7304850.is (sym (date_is 7_304_850 (pos 10000) 1 1 (record { year = omega (arith, signed_arith); first = omega arith; last = omega arith; begun = omega arith; within = omega arith }) day_count-end))

pub returns-in_default-clause-date : goal.returns-in_default-clause-date
returns-in_default-clause-date c =
    let date = c.from_days_since_min.result in
    let count : day_count date.year date.month date.day ≡ c.args.days = omega (arith, signed_arith, c.from_days_since_min.ensures, days_from_civil-day_count date.year date.month date.day, c.requires.first) in
    let is = date_is c.args.days date.year date.month date.day (record { year = omega (arith, signed_arith, date.year_in); first = date.month_in.0; last = date.month_in.1; begun = date.day_in.0; within = date.day_in.1 }) count in
    by_parts c.inner_date.result date.year date.month date.day c.inner_date.ensures.year c.inner_date.ensures.month c.inner_date.ensures.day ∙ sym is

pub returns-in_default-clause-month : goal.returns-in_default-clause-month
returns-in_default-clause-month c = omega (arith, c.inner_date.ensures.month, c.from_days_since_min.result.month_in.1)

pub returns-in_default-clause-day : goal.returns-in_default-clause-day
returns-in_default-clause-day c =
    let date = c.from_days_since_min.result in
    omega (arith, c.inner_date.ensures.day, date.day_in.1, (days_in_month_bounds date.year date.month).0)
