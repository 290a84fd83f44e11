-- The machine that reads all forms at once: what a byte does to a state.
use Rattle.std.specs.Prelude.{ℕ, Bool, true, false, cond, Option, Some, None, ◌==◌, ◌&&◌, nat_le}
use Rattle.time_primitive.specs.declared.form.Form.{Form}
use Rattle.time_primitive.specs.declared.form.Form.TheVariants.{GYear, GYearMonth, Date, DateTime}
use Rattle.time_primitive.specs.declared.form.Datatype.{Datatype}
use Rattle.time_primitive.specs.declared.form.Datatype.TheVariants.{Typed, Text}
use Rattle.time_primitive.specs.declared.machine.Class.{Class}
use Rattle.time_primitive.specs.declared.machine.Class.TheVariants as class
use Rattle.time_primitive.specs.declared.machine.ZoneState.{ZoneState}
use Rattle.time_primitive.specs.declared.machine.ZoneState.TheVariants as zone
use Rattle.time_primitive.specs.declared.machine.TimeState.{TimeState}
use Rattle.time_primitive.specs.declared.machine.TimeState.TheVariants as time
use Rattle.time_primitive.specs.declared.machine.State.{State}
use Rattle.time_primitive.specs.declared.machine.State.TheVariants as state

abbrev pub class_at : ℕ → Class
class_at b =
    cond (b == 48) class.Zero (cond (nat_le 49 b && nat_le b 57) class.Digit (cond (b == 45) class.Hyphen (cond (b == 43) class.Plus (
    cond (b == 58) class.Colon (cond (b == 46) class.Point (cond (b == 84) class.T (cond (b == 90) class.Z class.Other)))))))

abbrev pub is_digit : Class → Bool
is_digit class.Zero = true
is_digit class.Digit = true
is_digit _ = false

abbrev pub on_digit : State → Class → Option State
on_digit q c = cond (is_digit c) (Some q) None

-- the zone behind a text that has the form
abbrev pub on_zone : Form → Class → Option State
on_zone form class.Plus = Some (state.Zone form zone.Sign)
on_zone form class.Z = Some (state.Zone form zone.End)
on_zone form _ = None

-- the same where no further part begins with a hyphen
abbrev pub on_zone_or_hyphen : Form → Class → Option State
on_zone_or_hyphen form class.Hyphen = Some (state.Zone form zone.Sign)
on_zone_or_hyphen form c = on_zone form c

abbrev pub next_in_zone : Form → ZoneState → Class → Option State
next_in_zone form zone.Sign c = on_digit (state.Zone form zone.Hour1) c
next_in_zone form zone.Hour1 c = on_digit (state.Zone form zone.Hour2) c
next_in_zone form zone.Hour2 class.Colon = Some (state.Zone form zone.Colon)
next_in_zone form zone.Hour2 _ = None
next_in_zone form zone.Colon c = on_digit (state.Zone form zone.Minute1) c
next_in_zone form zone.Minute1 c = on_digit (state.Zone form zone.End) c
next_in_zone form zone.End _ = None

abbrev pub next_in_time : TimeState → Class → Option State
next_in_time time.Start c = on_digit (state.Clock time.Hour1) c
next_in_time time.Hour1 c = on_digit (state.Clock time.Hour2) c
next_in_time time.Hour2 class.Colon = Some (state.Clock time.Colon1)
next_in_time time.Hour2 _ = None
next_in_time time.Colon1 c = on_digit (state.Clock time.Minute1) c
next_in_time time.Minute1 c = on_digit (state.Clock time.Minute2) c
next_in_time time.Minute2 class.Colon = Some (state.Clock time.Colon2)
next_in_time time.Minute2 _ = None
next_in_time time.Colon2 c = on_digit (state.Clock time.Second1) c
next_in_time time.Second1 c = on_digit (state.Clock time.Second2) c
next_in_time time.Second2 class.Point = Some (state.Clock time.Point)
next_in_time time.Second2 c = on_zone_or_hyphen DateTime c
next_in_time time.Point c = on_digit (state.Clock time.Fraction) c
next_in_time time.Fraction class.Zero = Some (state.Clock time.Fraction)
next_in_time time.Fraction class.Digit = Some (state.Clock time.Fraction)
next_in_time time.Fraction c = on_zone_or_hyphen DateTime c

abbrev pub on_year : Class → Option State
on_year class.Zero = Some state.Zero1
on_year class.Digit = Some state.Year1
on_year _ = None

abbrev pub behind_year : Class → Option State
behind_year class.Hyphen = Some state.Hyphen1
behind_year c = on_zone GYear c

abbrev pub next : State → Class → Option State
next state.Start class.Hyphen = Some state.Sign
next state.Start c = on_year c
next state.Sign c = on_year c
next state.Year1 c = on_digit state.Year2 c
next state.Year2 c = on_digit state.Year3 c
next state.Year3 c = on_digit state.Year4 c
next state.Year4 class.Zero = Some state.Year4
next state.Year4 class.Digit = Some state.Year4
next state.Year4 c = behind_year c
next state.Zero1 c = on_digit state.Zero2 c
next state.Zero2 c = on_digit state.Zero3 c
next state.Zero3 c = on_digit state.Zero4 c
next state.Zero4 c = behind_year c
next state.Hyphen1 c = on_digit state.Month1 c
next state.Month1 c = on_digit state.Month2 c
next state.Month2 class.Hyphen = Some state.Hyphen2
next state.Month2 class.Colon = Some (state.Zone GYear zone.Colon)
next state.Month2 c = on_zone GYearMonth c
next state.Hyphen2 c = on_digit state.Day1 c
next state.Day1 c = on_digit state.Day2 c
next state.Day2 class.T = Some (state.Clock time.Start)
next state.Day2 class.Colon = Some (state.Zone GYearMonth zone.Colon)
next state.Day2 c = on_zone_or_hyphen Date c
next (state.Clock t) c = next_in_time t c
next (state.Zone form z) c = next_in_zone form z c

-- the form of the texts that lead to the state
abbrev pub accepts : State → Option Form
accepts state.Year4 = Some GYear
accepts state.Zero4 = Some GYear
accepts state.Month2 = Some GYearMonth
accepts state.Day2 = Some Date
accepts (state.Clock time.Second2) = Some DateTime
accepts (state.Clock time.Fraction) = Some DateTime
accepts (state.Zone form zone.End) = Some form
accepts _ = None

abbrev pub same_form : Form → Form → Bool
same_form GYear GYear = true
same_form GYearMonth GYearMonth = true
same_form Date Date = true
same_form DateTime DateTime = true
same_form f g = false

-- some text of the form leads through the state
abbrev pub leads_to : State → Form → Bool
leads_to (state.Zone g z) form = same_form g form
leads_to state.Hyphen2 GYear = false
leads_to state.Hyphen2 _ = true
leads_to state.Day1 GYear = false
leads_to state.Day1 _ = true
leads_to state.Day2 GYear = false
leads_to state.Day2 _ = true
leads_to (state.Clock t) form = same_form DateTime form
leads_to _ form = true

-- some text of the datatype leads through the state
abbrev pub is_wanted : Datatype → State → Bool
is_wanted (Typed form) q = leads_to q form
is_wanted Text q = true

abbrev pub is_taken : Datatype → Form → Bool
is_taken (Typed form) g = same_form form g
is_taken Text g = true
