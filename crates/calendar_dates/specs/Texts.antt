-- The texts of dates and times.
use Rattle.std.specs.Prelude.{ℕ, zero, suc, ℤ, pos, negsuc, neg_ℤ, ◌+ℤ◌, ◌+◌, ◌*◌, ◌/◌, ◌%◌, ◌==◌, ◌&&◌, Bool, cond, nat_lt, int_le, int_lt, unsigned_abs, List, [], ◌∷◌, ◌++◌, codes}
use Rattle.std.specs.Fmt.{decimal, signed_decimal}
use Rattle.calendar_dates.specs.declared.days.CalendarDate.{CalendarDate}
use Rattle.calendar_dates.specs.Calendar.{date_after}

abbrev pub two_digits : ℕ → List ℕ
two_digits n = (48 + n / 10) ∷ ((48 + n % 10) ∷ [])

-- at least four digits
abbrev pub number_text : ℕ → List ℕ
number_text n = cond (nat_lt n 10_000) (two_digits (n / 100) ++ two_digits (n % 100)) (decimal n)

abbrev pub year_text : ℤ → List ℕ
year_text (pos n) = number_text n
year_text (negsuc n) = codes "-" ++ number_text (suc n)

abbrev pub date_text : CalendarDate → List ℕ
date_text d = year_text d.year ++ (codes "-" ++ (two_digits d.month ++ (codes "-" ++ two_digits d.day)))

-- the first decimal places of n billionths, up to the last that is not 0
abbrev pub places : ℕ → ℕ → List ℕ
places zero n = []
places (suc k) n = cond (n == 0) [] ((48 + n / 100_000_000) ∷ places k (n % 100_000_000 * 10))

-- nanoseconds behind the point
abbrev pub fraction_text : ℕ → List ℕ
fraction_text n = cond (n == 0) [] (codes "." ++ places 9 n)

-- hours, minutes and seconds of the seconds of a day
abbrev pub clock_text : ℕ → List ℕ
clock_text s = two_digits (s / 3600) ++ (codes ":" ++ (two_digits (s / 60 % 60) ++ (codes ":" ++ two_digits (s % 60))))

-- the time of a day in nanoseconds; nothing at midnight
abbrev pub time_text : ℕ → List ℕ
time_text n = cond (n == 0) [] (codes "T" ++ (clock_text (n / 1_000_000_000) ++ (fraction_text (n % 1_000_000_000) ++ codes "Z")))

-- of the nanoseconds since the first instant of the year -10000
abbrev pub moment_text : ℕ → List ℕ
moment_text since = date_text (date_after (since / 86_400_000_000_000)) ++ time_text (since % 86_400_000_000_000)

-- from -10000-12-31 to 10000-01-01, which are all instants of dates that are read
abbrev pub is_in_reach : ℤ → Bool
is_in_reach t = int_le (neg_ℤ (pos 377_705_203_200_000_000_000)) t && int_lt t (pos 253_402_387_200_000_000_000)

-- of the nanoseconds from 1970-01-01T00:00:00 in UTC
abbrev pub instant_text : ℤ → List ℕ
instant_text t = cond (is_in_reach t) (moment_text (unsigned_abs (t +ℤ pos 377_736_739_200_000_000_000))) (signed_decimal t)
