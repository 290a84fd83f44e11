-- The kinds of faults of dates as they are printed.
use Rattle.std.specs.Prelude.{ℕ, List, codes}
use Rattle.time_primitive.specs.declared.DateKind.{DateKind}
use Rattle.time_primitive.specs.declared.DateKind.TheVariants as date

abbrev pub date_kind_name : DateKind → List ℕ
date_kind_name date.Datatype = codes "Datatype"
date_kind_name date.Form = codes "Form"
date_kind_name date.Year = codes "Year"
date_kind_name date.Day = codes "Day"
date_kind_name date.Fraction = codes "Fraction"
date_kind_name date.Offset = codes "Offset"
