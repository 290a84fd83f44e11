-- The first instant of a date lies within 2^100 nanoseconds of 1970.
use Rattle.std.proofs.Common.{◌≡◌, ℕ, suc, drop, slice_index, inl, inr, [], ◌≤◌, ◌+◌, ◌*◌, ◌^◌, List, Option, Some, None, Result, Ok, Err, Bool, true, false, cond, not, refl, arith}
use Rattle.std.specs.Prelude.{ℤ, pos, neg_ℤ, ◌≤ℤ◌, ◌<ℤ◌, ◌+ℤ◌, ◌-ℤ◌, ◌*ℤ◌, IfOk, IfSome, length, nat_le, nat_lt, ◌&&◌, ◌||◌, ◌==◌}
use Rattle.std.specs.Option.{option_or}
use Rattle.std.proofs.lemmas.Bool.{and_parts, cond_both}
use Rattle.std.proofs.lemmas.Bool.Decides.{leb_tells, nat_tests}
use Rattle.std.proofs.lemmas.Int.{ints}
use Rattle.std.proofs.lemmas.List.{get_or_past}
use Rattle.jiff_core.specs.Calendar.{IsYear, IsCivilDate, IsEpochDay, days_from_civil, days_in_month}
use Rattle.jiff_core.proofs.SignedLemmas.{signed_arith}
use Rattle.jiff_core.proofs.CalendarLemmas.{day_count_bounds, days_from_civil-day_count}
use Rattle.rdf_vocabulary.specs.Iris.{xsd_string}
use Rattle.time_primitive.specs.declared.DateFault.{DateFault}
use Rattle.time_primitive.specs.declared.DateKind.TheVariants as kind
use Rattle.time_primitive.specs.declared.Side.TheVariants.{Lower}
use Rattle.time_primitive.specs.declared.form.Form.{Form}
use Rattle.time_primitive.specs.declared.form.Form.TheVariants.{GYear, GYearMonth, Date, DateTime}
use Rattle.time_primitive.specs.declared.form.Datatype.{Datatype}
use Rattle.time_primitive.specs.declared.parts.Parts.{Parts}
use Rattle.time_primitive.specs.declared.parts.Offset.{Offset}
use Rattle.time_primitive.specs.Forms.{datatype_in, form_in}
use Rattle.time_primitive.specs.Parts.{AreDigits, digit_at, digits_of, fraction_of, has_time, parts_of, places, year_end, year_of}
use Rattle.time_primitive.specs.Dates.{by_datatype, by_form, by_year, date_of, day_fault, day_of, fault, fault_in, fits_hour, fraction_fault, has_date, instant_of, is_midnight, is_offset, missing_part, offset_fault, offset_nanoseconds, or_instant, time_of_day}
use Rattle.time_primitive.proofs.Digits.{front_digits, short_year}
use Rattle.command_words.specs.Words.{instant_in, instant_named}

abbrev pub IsWithin : ℤ → Type 0
IsWithin t = ((pos 0 -ℤ pos (2 ^ 100)) <ℤ t) × (t <ℤ pos (2 ^ 100))

-- what a date that has no fault is made of
record IsWhole (year : ℤ) (p : Parts) : Type 0 where
  date : IsCivilDate year p.month p.day
  hour : p.hour ≤ 24
  minute : p.minute ≤ 59
  second : p.second ≤ 59
  offset : IfSome p.offset (λ o. is_offset o ≡ true)

none_of : (b : Bool) (x : ℕ) (o : Option ℕ) → cond (not b) (Some x) o ≡ None → (b ≡ true) × (o ≡ None)
none_of true x o e = (refl, e)
none_of false x o e = absurd (let never : ⊥ = cc in never)

no_day : (missing : Option ℕ) (o : Option DateFault) → option_or (day_fault missing) o ≡ None → (missing ≡ None) × (o ≡ None)
no_day None o e = (refl, e)
no_day (Some at) o e = absurd (let never : ⊥ = cc in never)

no_fraction : (p : Parts) (o : Option DateFault) → option_or (fraction_fault p) o ≡ None → o ≡ None
no_fraction p o = by (nat_le p.decimals 9)
  where
    by : (b : Bool) → option_or (cond b None (Some (fault kind.Fraction (p.year_end + 25)))) o ≡ None → o ≡ None
    by true e = e
    by false e = absurd (let never : ⊥ = cc in never)

no_offset : (o : Option Offset) → offset_fault o ≡ None → IfSome o (λ f. is_offset f ≡ true)
no_offset None e = tt
no_offset (Some f) e = by (is_offset f) refl e
  where
    by : (b : Bool) → is_offset f ≡ b → cond b None (Some (fault kind.Offset f.at)) ≡ None → is_offset f ≡ true
    by true is e = is
    by false is e = absurd (let never : ⊥ = cc in never)

whole : (year : ℤ) (p : Parts) → IsYear year → fault_in year p ≡ None → IsWhole year p
whole year p y e =
    let one = no_day (missing_part year p) (option_or (fraction_fault p) (offset_fault p.offset)) e in
    let months = none_of (nat_le 1 p.month && nat_le p.month 12) (p.year_end + 1) _ one.0 in
    let days = none_of (has_date year p) (p.year_end + 4) _ months.1 in
    let hours = none_of (nat_le p.hour 24) (p.year_end + 7) _ days.1 in
    let minutes = none_of (fits_hour p p.minute) (p.year_end + 10) _ hours.1 in
    let seconds = none_of (fits_hour p p.second) (p.year_end + 13) _ minutes.1 in
    let month = and_parts (nat_le 1 p.month) (nat_le p.month 12) months.0 in
    let day = and_parts (nat_le 1 p.day) (nat_le p.day (days_in_month year p.month)) days.0 in
    let minute = and_parts (nat_le p.minute 59) (not (is_midnight p) || p.minute == 0) minutes.0 in
    let second = and_parts (nat_le p.second 59) (not (is_midnight p) || p.second == 0) seconds.0 in
    record {
      date = (y, (grind (arith, nat_tests, month.0), grind (arith, nat_tests, month.1)), (grind (arith, nat_tests, day.0), grind (arith, nat_tests, day.1)));
      hour = grind (arith, nat_tests, hours.0);
      minute = grind (arith, nat_tests, minute.0);
      second = grind (arith, nat_tests, second.0);
      offset = no_offset p.offset (no_fraction p (offset_fault p.offset) one.1);
    }

-- digits behind the end count as 0
digit_small : (digits : List ℕ) (n : ℕ) → AreDigits digits → digit_at digits n ≤ 9
digit_small digits n d =
    elim (leb_tells (suc n) (length digits)) [
      | inl within ↦ d n within.1
      | inr beyond ↦ omega (arith, get_or_past digits n 0 (omega (arith, beyond.1)))
    ]

nine_places : (digits : List ℕ) → AreDigits digits → places digits 9 ≤ 999_999_999
nine_places digits d =
    omega (
      arith,
      digit_small digits 0 d,
      digit_small digits 1 d,
      digit_small digits 2 d,
      digit_small digits 3 d,
      digit_small digits 4 d,
      digit_small digits 5 d,
      digit_small digits 6 d,
      digit_small digits 7 d,
      digit_small digits 8 d,
    )

no_digits : AreDigits []
no_digits k l = absurd (let never : ⊥ = omega (arith, l) in never)

fraction_digits : (form : Form) (text : List ℕ) → AreDigits (fraction_of form text)
fraction_digits form text =
    cond_both (has_time form && slice_index text (year_end text + 15) == 46) (digits_of (drop (year_end text + 16) text)) [] AreDigits
    (λ e. front_digits (drop (year_end text + 16) text)) (λ e. no_digits)

offset_within : (o : Option Offset) → IfSome o (λ f. is_offset f ≡ true) → (neg_ℤ (pos (2 ^ 80)) ≤ℤ offset_nanoseconds o) × (offset_nanoseconds o ≤ℤ pos (2 ^ 80))
offset_within None h = (omega (arith, ints), omega (arith, ints))
offset_within (Some f) h = by f.negative
  where
    hours : f.hours ≤ 14
    hours = grind (arith, nat_tests, h)

    minutes : f.minutes ≤ 59
    minutes = grind (arith, nat_tests, h)

    by : (b : Bool) → (neg_ℤ (pos (2 ^ 80)) ≤ℤ cond b (neg_ℤ (pos ((f.hours * 60 + f.minutes) * 60_000_000_000))) (pos ((f.hours * 60 + f.minutes) * 60_000_000_000)))
        × (cond b (neg_ℤ (pos ((f.hours * 60 + f.minutes) * 60_000_000_000))) (pos ((f.hours * 60 + f.minutes) * 60_000_000_000)) ≤ℤ pos (2 ^ 80))
    by true = (omega (arith, ints, hours, minutes), omega (arith, ints, hours, minutes))
    by false = (omega (arith, ints, hours, minutes), omega (arith, ints, hours, minutes))

time_within : (year : ℤ) (p : Parts) → IsWhole year p → p.nanosecond ≤ 999_999_999 → time_of_day p ≤ 2 ^ 80
time_within year p w n = omega (arith, w.hour, w.minute, w.second, n)

day_within : (y : ℤ) (m d : ℕ) → IsCivilDate y m d → IsEpochDay (days_from_civil y m d)
day_within y m d h = omega (arith, signed_arith, days_from_civil-day_count y m d, day_count_bounds y m d h)

first_day_of : (form : Form) (year : ℤ) (p : Parts) → day_of form year p Lower ≡ days_from_civil year p.month p.day
first_day_of GYear year p = refl
first_day_of GYearMonth year p = refl
first_day_of Date year p = refl
first_day_of DateTime year p = refl

total_within : (day offset : ℤ) (time : ℕ) → IsEpochDay day → time ≤ 2 ^ 80 → (neg_ℤ (pos (2 ^ 80)) ≤ℤ offset) × (offset ≤ℤ pos (2 ^ 80)) →
    IsWithin ((day *ℤ pos 86_400_000_000_000 +ℤ pos time) -ℤ offset)
total_within day offset time d t o = (omega (arith, signed_arith, d, t, o), omega (arith, signed_arith, d, t, o))

parts_within : (form : Form) (text : List ℕ) (year : ℤ) → IsYear year → fault_in year (parts_of form text) ≡ None → IsWithin (instant_of year (parts_of form text) Lower)
parts_within form text year y e =
    let p = parts_of form text in
    let w = whole year p y e in
    let small = nine_places (fraction_of form text) (fraction_digits form text) in
    rw (first_day_of form year p) (total_within (days_from_civil year p.month p.day) (offset_nanoseconds p.offset) (time_of_day p)
    (day_within year p.month p.day w.date) (time_within year p w small) (offset_within p.offset w.offset))

year_within : (form : Form) (text : List ℕ) → IfOk (by_year (year_of text) (parts_of form text) Lower) IsWithin
year_within form text = by (year_of text) (short_year text)
  where
    known : (year : ℤ) → IsYear year → (f : Option DateFault) → fault_in year (parts_of form text) ≡ f → IfOk (or_instant f (instant_of year (parts_of form text) Lower)) IsWithin
    known year y None e = parts_within form text year y e
    known year y (Some f) e = tt

    by : (o : Option ℤ) → IfSome o (λ y. (year_end text ≤ 5) × (neg_ℤ (pos 9999) ≤ℤ y) × (y ≤ℤ pos 9999)) → IfOk (by_year o (parts_of form text) Lower) IsWithin
    by None h = tt
    by (Some year) h = known year (h.1, h.2) (fault_in year (parts_of form text)) refl

form_within : (form : Result Form ℕ) (text : List ℕ) → IfOk (by_form form text Lower) IsWithin
form_within (Err at) text = tt
form_within (Ok form) text = year_within form text

date_within : (datatype : Option Datatype) (text : List ℕ) → IfOk (by_datatype datatype text Lower) IsWithin
date_within None text = tt
date_within (Some datatype) text = form_within (form_in datatype text) text

named : (r : Result ℤ DateFault) → IfOk r IsWithin → IfSome (instant_in r) IsWithin
named (Ok t) h = h
named (Err f) h = tt

-- so does one that a word names
pub instant_within : (word : List ℕ) → IfSome (instant_named word) IsWithin
instant_within word =
    cond_both (nat_lt (length word) (2 ^ 32)) _ _ (λ o. IfSome o IsWithin)
    (λ e. named (date_of word xsd_string Lower) (date_within (datatype_in xsd_string) word)) (λ e. tt)
