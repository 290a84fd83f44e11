-- The instant of a date, or its fault.
use Rattle.std.specs.Prelude.{ℕ, ℤ, pos, neg_ℤ, ◌+ℤ◌, ◌-ℤ◌, ◌*ℤ◌, ◌+◌, ◌*◌, ◌==◌, ◌&&◌, ◌||◌, Bool, cond, not, nat_le, Option, Some, None, Result, Ok, Err, List}
use Rattle.std.specs.Option.{option_or}
use Rattle.jiff_core.specs.Calendar.{days_from_civil, days_in_month}
use Rattle.time_primitive.specs.declared.Side.{Side}
use Rattle.time_primitive.specs.declared.Side.TheVariants.{Lower, Upper}
use Rattle.time_primitive.specs.declared.DateKind.{DateKind}
use Rattle.time_primitive.specs.declared.DateKind.TheVariants as kind
use Rattle.time_primitive.specs.declared.DateFault.{DateFault}
use Rattle.time_primitive.specs.declared.form.Form.{Form}
use Rattle.time_primitive.specs.declared.form.Form.TheVariants.{GYear, GYearMonth, DateTime}
use Rattle.time_primitive.specs.declared.form.Datatype.{Datatype}
use Rattle.time_primitive.specs.declared.parts.Parts.{Parts}
use Rattle.time_primitive.specs.declared.parts.Offset.{Offset}
use Rattle.time_primitive.specs.Forms.{datatype_in, form_in}
use Rattle.time_primitive.specs.Parts.{parts_of}

abbrev pub fault : DateKind → ℕ → DateFault
fault kind at = record { kind = kind; at = at }

-- the first part that doesn't exist, by the place of its first digit; hour 24 is the end of the day
abbrev pub is_midnight : Parts → Bool
is_midnight p = p.hour == 24

abbrev pub has_date : ℤ → Parts → Bool
has_date year p = nat_le 1 p.day && nat_le p.day (days_in_month year p.month)

abbrev pub fits_hour : Parts → ℕ → Bool
fits_hour p n = nat_le n 59 && (not (is_midnight p) || n == 0)

abbrev pub nonzero_place : Parts → Option ℕ → Option ℕ
nonzero_place p None = None
nonzero_place p (Some i) = cond (is_midnight p) (Some (p.year_end + 16 + i)) None

abbrev pub missing_part : ℤ → Parts → Option ℕ
missing_part year p =
    cond (not (nat_le 1 p.month && nat_le p.month 12)) (Some (p.year_end + 1)) (
    cond (not (has_date year p)) (Some (p.year_end + 4)) (
    cond (not (nat_le p.hour 24)) (Some (p.year_end + 7)) (
    cond (not (fits_hour p p.minute)) (Some (p.year_end + 10)) (
    cond (not (fits_hour p p.second)) (Some (p.year_end + 13)) (
    nonzero_place p p.first_nonzero)))))

-- at most nine decimal places; the place is that of the tenth
abbrev pub fraction_fault : Parts → Option DateFault
fraction_fault p = cond (nat_le p.decimals 9) None (Some (fault kind.Fraction (p.year_end + 25)))

-- at most fourteen hours
abbrev pub is_offset : Offset → Bool
is_offset o = nat_le o.minutes 59 && (nat_le o.hours 13 || (o.hours == 14 && o.minutes == 0))

abbrev pub offset_fault : Option Offset → Option DateFault
offset_fault None = None
offset_fault (Some o) = cond (is_offset o) None (Some (fault kind.Offset o.at))

abbrev pub day_fault : Option ℕ → Option DateFault
day_fault None = None
day_fault (Some place) = Some (fault kind.Day place)

abbrev pub fault_in : ℤ → Parts → Option DateFault
fault_in year p = option_or (day_fault (missing_part year p)) (option_or (fraction_fault p) (offset_fault p.offset))

-- the last day of the year, of the month, or the day itself
abbrev pub last_day : Form → ℤ → Parts → ℤ
last_day GYear year p = days_from_civil year 12 31
last_day GYearMonth year p = days_from_civil year p.month (days_in_month year p.month)
last_day form year p = days_from_civil year p.month p.day

abbrev pub first_day : ℤ → Parts → ℤ
first_day year p = days_from_civil year p.month p.day

-- the upper side of a year, a month or a day is the first instant after it; a time is both
abbrev pub day_of : Form → ℤ → Parts → Side → ℤ
day_of DateTime year p side = first_day year p
day_of form year p Lower = first_day year p
day_of form year p Upper = last_day form year p +ℤ pos 1

-- in nanoseconds
abbrev pub time_of_day : Parts → ℕ
time_of_day p = ((p.hour * 60 + p.minute) * 60 + p.second) * 1_000_000_000 + p.nanosecond

abbrev pub offset_nanoseconds : Option Offset → ℤ
offset_nanoseconds None = pos 0
offset_nanoseconds (Some o) = cond o.negative (neg_ℤ (pos ((o.hours * 60 + o.minutes) * 60_000_000_000))) (pos ((o.hours * 60 + o.minutes) * 60_000_000_000))

-- nanoseconds from 1970-01-01T00:00:00 in UTC
abbrev pub instant_of : ℤ → Parts → Side → ℤ
instant_of year p side = (day_of p.form year p side *ℤ pos 86_400_000_000_000 +ℤ pos (time_of_day p)) -ℤ offset_nanoseconds p.offset

abbrev pub or_instant : Option DateFault → ℤ → Result ℤ DateFault
or_instant (Some e) instant = Err e
or_instant None instant = Ok instant

abbrev pub by_year : Option ℤ → Parts → Side → Result ℤ DateFault
by_year None p side = Err (fault kind.Year 0)
by_year (Some year) p side = or_instant (fault_in year p) (instant_of year p side)

abbrev pub by_parts : Parts → Side → Result ℤ DateFault
by_parts p side = by_year p.year p side

abbrev pub by_form : Result Form ℕ → List ℕ → Side → Result ℤ DateFault
by_form (Err at) text side = Err (fault kind.Form at)
by_form (Ok form) text side = by_parts (parts_of form text) side

abbrev pub by_datatype : Option Datatype → List ℕ → Side → Result ℤ DateFault
by_datatype None text side = Err (fault kind.Datatype 0)
by_datatype (Some datatype) text side = by_form (form_in datatype text) text side

-- the instant of the lexical form at the side, by its datatype
abbrev pub date_of : List ℕ → List ℕ → Side → Result ℤ DateFault
date_of lexical datatype side = by_datatype (datatype_in datatype) lexical side
