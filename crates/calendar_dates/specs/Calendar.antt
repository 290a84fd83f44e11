-- The proleptic Gregorian calendar, one day after the other.
use Rattle.std.specs.Prelude.{ℕ, zero, suc, pos, neg_ℤ, ◌+ℤ◌, cond, nat_lt}
use Rattle.jiff_core.specs.Calendar.{days_in_month}
use Rattle.calendar_dates.specs.declared.days.CalendarDate.{CalendarDate}

-- the day behind a date
abbrev pub next_day : CalendarDate → CalendarDate
next_day d =
    cond (nat_lt d.day (days_in_month d.year d.month)) (record { year = d.year; month = d.month; day = suc d.day }) (
    cond (nat_lt d.month 12) (record { year = d.year; month = suc d.month; day = 1 })
    (record { year = d.year +ℤ pos 1; month = 1; day = 1 }))

-- the date that many days after 1 January of the year -10000
unfoldable pub date_after : ℕ → CalendarDate
date_after zero = record { year = neg_ℤ (pos 10000); month = 1; day = 1 }
date_after (suc n) = next_day (date_after n)
