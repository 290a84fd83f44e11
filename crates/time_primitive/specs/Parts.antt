-- The parts of a text that has a form, by their places.
use Rattle.std.specs.Prelude.{◌<◌, ◌≤◌, ◌≤ℤ◌, IfSome, ℕ, zero, suc, ℤ, pos, neg_ℤ, ◌+◌, ◌-◌, ◌*◌, ◌==◌, ◌&&◌, ◌||◌, Bool, true, false, cond, not, nat_le, Option, Some, None, List, [], length, take, drop, slice_index, position}
use Rattle.std.specs.List.{position_or_len}
use Rattle.time_primitive.specs.declared.form.Form.{Form}
use Rattle.time_primitive.specs.declared.form.Form.TheVariants.{GYear, GYearMonth, Date, DateTime}
use Rattle.time_primitive.specs.declared.parts.Parts.{Parts}
use Rattle.time_primitive.specs.declared.parts.Offset.{Offset}

-- the value of the digit at a place; 0 behind the end
abbrev pub digit_at : List ℕ → ℕ → ℕ
digit_at text i = slice_index text i - 48

-- the number that two digits write
abbrev pub pair_at : List ℕ → ℕ → ℕ
pair_at text i = digit_at text i * 10 + digit_at text (i + 1)

-- the first n digits as a number; a digit that is wanting counts as 0
abbrev pub places : List ℕ → ℕ → ℕ
places digits zero = 0
places digits (suc n) = places digits n * 10 + digit_at digits n

abbrev pub is_digit_byte : ℕ → Bool
is_digit_byte b = nat_le 48 b && nat_le b 57

-- the digits at the front
abbrev pub digits_of : List ℕ → List ℕ
digits_of text = take (position_or_len (λ b. not (is_digit_byte b)) text) text

abbrev pub AreDigits : List ℕ → Type 0
AreDigits digits = (k : ℕ) → k < length digits → digit_at digits k ≤ 9

-- the year, with its sign
abbrev pub is_negative : List ℕ → Bool
is_negative text = slice_index text 0 == 45

abbrev pub sign_length : List ℕ → ℕ
sign_length text = cond (is_negative text) 1 0

abbrev pub year_digits : List ℕ → List ℕ
year_digits text = digits_of (drop (sign_length text) text)

abbrev pub year_end : List ℕ → ℕ
year_end text = sign_length text + length (year_digits text)

abbrev pub year_number : List ℕ → ℕ
year_number text = places (year_digits text) (length (year_digits text))

-- none where it is below -9999 or above 9999: a year with more than four digits doesn't begin with zero
abbrev pub year_of : List ℕ → Option ℤ
year_of text = cond (nat_le (length (year_digits text)) 4) (Some (cond (is_negative text) (neg_ℤ (pos (year_number text))) (pos (year_number text)))) None

abbrev pub has_month : Form → Bool
has_month GYear = false
has_month _ = true

abbrev pub has_day : Form → Bool
has_day Date = true
has_day DateTime = true
has_day _ = false

abbrev pub has_time : Form → Bool
has_time DateTime = true
has_time _ = false

-- the digits behind the point
abbrev pub fraction_of : Form → List ℕ → List ℕ
fraction_of form text = cond (has_time form && slice_index text (year_end text + 15) == 46) (digits_of (drop (year_end text + 16) text)) []

-- where the zone stands, if there is one
abbrev pub zone_place : Form → List ℕ → ℕ
zone_place GYear text = year_end text
zone_place GYearMonth text = year_end text + 3
zone_place Date text = year_end text + 6
zone_place DateTime text = cond (slice_index text (year_end text + 15) == 46) (year_end text + 16 + length (fraction_of DateTime text)) (year_end text + 15)

abbrev pub is_sign : ℕ → Bool
is_sign b = b == 43 || b == 45

abbrev pub offset_at : List ℕ → ℕ → Option Offset
offset_at text place =
    cond (is_sign (slice_index text place))
    (Some (record { at = place; negative = slice_index text place == 45; hours = pair_at text (place + 1); minutes = pair_at text (place + 4) })) None

abbrev pub parts_of : Form → List ℕ → Parts
parts_of form text = record {
  form = form;
  year = year_of text;
  year_end = year_end text;
  month = cond (has_month form) (pair_at text (year_end text + 1)) 1;
  day = cond (has_day form) (pair_at text (year_end text + 4)) 1;
  hour = cond (has_time form) (pair_at text (year_end text + 7)) 0;
  minute = cond (has_time form) (pair_at text (year_end text + 10)) 0;
  second = cond (has_time form) (pair_at text (year_end text + 13)) 0;
  nanosecond = places (fraction_of form text) 9;
  decimals = length (fraction_of form text);
  first_nonzero = position (λ b. not (b == 48)) (fraction_of form text);
  offset = offset_at text (zone_place form text);
}

-- the places of the parts lie in a text of this length, where its year has at most four digits
pub record IsPlaced (size : ℕ) (p : Parts) : Type 0 where
  pub decimals : p.decimals ≤ size - (p.year_end + 16)
  pub first_nonzero : IfSome p.first_nonzero (λ i. i < p.decimals)
  pub offset : IfSome p.offset (λ o. o.at ≤ p.year_end + 16 + p.decimals)
  pub year : IfSome p.year (λ y. (p.year_end ≤ 5) × (neg_ℤ (pos 9999) ≤ℤ y) × (y ≤ℤ pos 9999))
