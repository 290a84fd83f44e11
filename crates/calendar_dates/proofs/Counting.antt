-- The date behind a count of days is the one with as many days before it.
use Rattle.std.proofs.Common.{◌≡◌, ℕ, zero, suc, ◌+◌, ◌-◌, ◌<◌, ◌≤◌, refl, sym, ap, ◌∙◌, arith, ℤ, pos, neg_ℤ, ◌+ℤ◌, ◌≤ℤ◌}
use Rattle.std.proofs.lemmas.Bool.{cond_below, cond_above}
use Rattle.std.proofs.lemmas.Int.{by_lt_z}
use Rattle.jiff_core.specs.Calendar.{days_in_month, days_of_years, days_of_months, day_count}
use Rattle.jiff_core.proofs.SignedLemmas.{signed_arith}
use Rattle.jiff_core.proofs.MarchLemmas.{days_in_year-leap_day}
use Rattle.jiff_core.proofs.CalendarLemmas.{days_in_month_bounds, days_of_months_more, day_count-day_of_year, day_count-next_year, day_count-day, day_count-next_month, day_count-last_of_year}
use Rattle.calendar_dates.specs.declared.days.CalendarDate.{CalendarDate}
use Rattle.calendar_dates.specs.Calendar.{next_day, date_after}

abbrev pub the : ℤ → ℕ → ℕ → CalendarDate
the y m d = record { year = y; month = m; day = d }

-- a date of the calendar from the year -10000 on
pub record IsCalendarDate (y : ℤ) (m d : ℕ) : Type 0 where
  pub year : neg_ℤ (pos 10000) ≤ℤ y
  pub first : 1 ≤ m
  pub last : m ≤ 12
  pub begun : 1 ≤ d
  pub within : d ≤ days_in_month y m

next_in_month : (y : ℤ) (m d : ℕ) → d < days_in_month y m → next_day (the y m d) ≡ the y m (suc d)
next_in_month y m d h = sym (cond_below d (days_in_month y m) (the y m (suc d)) _ h)

next_in_year : (y : ℤ) (m : ℕ) → m < 12 → next_day (the y m (days_in_month y m)) ≡ the y (suc m) 1
next_in_year y m h =
    sym (cond_above (days_in_month y m) (days_in_month y m) (the y m (suc (days_in_month y m))) _ (the y (suc m) 1) (omega arith) (cond_below m 12 (the y (suc m) 1) (the (y +ℤ pos 1) 1 1) h))

next_year : (y next : ℤ) → next ≡ y +ℤ pos 1 → next_day (the y 12 31) ≡ the next 1 1
next_year y next e = sym (ap (λ (z : ℤ). the z 1 1) e)

-- a date with others before it is the day behind one of them
pub record IsBehind (n : ℕ) (y : ℤ) (m d : ℕ) : Type 0 where
  pub year : ℤ
  pub month : ℕ
  pub day : ℕ
  pub is_date : IsCalendarDate year month day
  pub count : day_count year month day ≡ n
  pub next : next_day (the year month day) ≡ the y m d

pub first_month : (y : ℤ) (m : ℕ) → 1 ≤ m → days_of_months y (m - 1) ≡ 0 → m ≡ 1
first_month y zero h none = absurd (omega arith)
first_month y (suc zero) h none = refl
first_month y (suc (suc m)) h none =
    let back : suc (suc m) - 1 ≡ suc m = omega arith in
    absurd (omega (arith, rw back at none, days_of_months_more y (suc m) (omega arith), (days_in_month_bounds y (suc m)).1))

first_year : (y : ℤ) → neg_ℤ (pos 10000) ≤ℤ y → day_count y 1 1 ≡ 0 → y ≡ neg_ℤ (pos 10000)
first_year y low none =
    by_lt_z (neg_ℤ (pos 10000)) y
    (λ lt. absurd (omega (arith, day_count-next_year (y +ℤ neg_ℤ (pos 1)) y (omega (arith, signed_arith)) (omega (arith, signed_arith)), days_in_year-leap_day (y +ℤ neg_ℤ (pos 1)))))
    (λ le. omega (arith, signed_arith))

-- nothing is before the first day
first_day : (y : ℤ) (m d : ℕ) → IsCalendarDate y m d → day_count y m d ≡ 0 → the (neg_ℤ (pos 10000)) 1 1 ≡ the y m d
first_day y m d h none =
    let sum = day_count-day_of_year y m d h.begun in
    let day : d ≡ 1 = omega (arith, sum, h.begun) in
    let months : days_of_months y (m - 1) ≡ 0 = omega (arith, sum, h.begun) in
    let month : m ≡ 1 = first_month y m h.first months in
    let year : y ≡ neg_ℤ (pos 10000) = first_year y h.year (omega (arith, sum, h.begun)) in
    rw (year, month, day) refl

pub none_before : day_count (neg_ℤ (pos 10000)) 1 1 ≡ 0
unfolding day_count days_of_years days_of_months
none_before = refl

-- only the year -10000 has no day before it
earlier : (y : ℤ) → neg_ℤ (pos 10000) ≤ℤ y → 0 < day_count y 1 1 → neg_ℤ (pos 10000) ≤ℤ (y +ℤ neg_ℤ (pos 1))
earlier y low some =
    by_lt_z (neg_ℤ (pos 10000)) y (λ lt. omega (arith, signed_arith))
    (λ le.
    let is : y ≡ neg_ℤ (pos 10000) = omega (arith, signed_arith) in
    absurd (omega (arith, rw is at some, none_before)))

month_before : (n : ℕ) (y : ℤ) (m : ℕ) → day_count y (suc (suc m)) 1 ≡ suc n → day_count y (suc m) (days_in_month y (suc m)) ≡ n
month_before n y m e =
    let next : suc m + 1 ≡ suc (suc m) = omega arith in
    let step = rw next at (day_count-next_month y (suc m) (omega arith)) in
    omega (arith, e, step, day_count-day y (suc m) (days_in_month y (suc m)) 1 (omega (arith, (days_in_month_bounds y (suc m)).1)) (omega arith))

year_before : (n : ℕ) (y : ℤ) → IsCalendarDate y 1 1 → day_count y 1 1 ≡ suc n → IsBehind n y 1 1
year_before n y h e =
    let back = y +ℤ neg_ℤ (pos 1) in
    let next : y ≡ back +ℤ pos 1 = omega (arith, signed_arith) in
    let low : neg_ℤ (pos 10000) ≤ℤ back = earlier y h.year (omega (arith, e)) in
    record {
      year = back;
      month = 12;
      day = 31;
      is_date = record { year = low; first = omega arith; last = omega arith; begun = omega arith; within = omega arith };
      count = omega (arith, e, day_count-next_year back y low next, day_count-last_of_year back);
      next = next_year back y next;
    }

day_before : (n : ℕ) (y : ℤ) (m d : ℕ) → IsCalendarDate y m d → day_count y m d ≡ suc n → IsBehind n y m d
day_before n y m zero h e = absurd (omega (arith, h.begun))
day_before n y zero (suc zero) h e = absurd (omega (arith, h.first))
day_before n y (suc zero) (suc zero) h e = year_before n y h e
day_before n y (suc (suc m)) (suc zero) h e = record {
  year = y;
  month = suc m;
  day = days_in_month y (suc m);
  is_date = record { year = h.year; first = omega arith; last = omega (arith, h.last); begun = omega (arith, (days_in_month_bounds y (suc m)).1); within = omega arith };
  count = month_before n y m e;
  next = next_in_year y (suc m) (omega (arith, h.last));
}
day_before n y m (suc (suc d)) h e = record {
  year = y;
  month = m;
  day = suc d;
  is_date = record { year = h.year; first = h.first; last = h.last; begun = omega arith; within = omega (arith, h.within) };
  count = omega (arith, e, day_count-day y m (suc (suc d)) (suc d) (omega arith) (omega arith));
  next = next_in_month y m (suc d) (omega (arith, h.within));
}

pub date_is : (n : ℕ) (y : ℤ) (m d : ℕ) → IsCalendarDate y m d → day_count y m d ≡ n → date_after n ≡ the y m d
unfolding date_after
date_is zero y m d h e = first_day y m d h e
date_is (suc n) y m d h e =
    let back = day_before n y m d h e in
    ap next_day (date_is n back.year back.month back.day back.is_date back.count) ∙ back.next
