-- The forms of dates, the datatypes that ask for them, and what a text is among them.
use Rattle.std.specs.Prelude.{ℕ, zero, suc, Bool, cond, not, Option, Some, None, Result, Ok, Err, List, [], ◌∷◌, length, take, codes, bytes_eq}
use Rattle.std.specs.List.{find, list_any}
use Rattle.rdf_vocabulary.specs.Iris.{xsd_g_year, xsd_g_year_month, xsd_date, xsd_date_time, xsd_string}
use Rattle.text_patterns.specs.Patterns.{Pattern, ◌then◌, ◌or◌, char, optional, some_of}
use Rattle.text_patterns.specs.Patterns.Pattern.{One, Many}
use Rattle.text_patterns.specs.Derivatives.{nullable, after, is_barren}
use Rattle.time_primitive.specs.declared.form.Form.{Form}
use Rattle.time_primitive.specs.declared.form.Form.TheVariants.{GYear, GYearMonth, Date, DateTime}
use Rattle.time_primitive.specs.declared.form.Datatype.{Datatype}
use Rattle.time_primitive.specs.declared.form.Datatype.TheVariants.{Typed, Text}

abbrev pub digit : Pattern
digit = One ((48, 57) ∷ [])

abbrev pub first_digit : Pattern
first_digit = One ((49, 57) ∷ [])

-- `-`, `+`, `:`, `.`, `0`, `T`, `Z`
abbrev pub hyphen : Pattern
hyphen = char 45

abbrev pub colon : Pattern
colon = char 58

abbrev pub two_digits : Pattern
two_digits = digit then digit

-- four digits or more, with no zero first where there are more than four
abbrev pub year : Pattern
year = optional hyphen then ((first_digit then digit then digit then digit then Many digit) or (char 48 then digit then digit then digit))

-- `Z`, or an offset of hours and minutes
abbrev pub zone : Pattern
zone = char 90 or (One ((43, 43) ∷ (45, 45) ∷ []) then two_digits then colon then two_digits)

abbrev pub year_month : Pattern
year_month = year then hyphen then two_digits

abbrev pub year_month_day : Pattern
year_month_day = year_month then hyphen then two_digits

-- hours, minutes and seconds, with any number of decimal places
abbrev pub time : Pattern
time = two_digits then colon then two_digits then colon then two_digits then optional (char 46 then some_of digit)

abbrev pub spelling : Form → Pattern
spelling GYear = year then optional zone
spelling GYearMonth = year_month then optional zone
spelling Date = year_month_day then optional zone
spelling DateTime = year_month_day then char 84 then time then optional zone

abbrev pub datatype_in : List ℕ → Option Datatype
datatype_in iri =
    cond (bytes_eq xsd_g_year iri) (Some (Typed GYear)) (
    cond (bytes_eq xsd_g_year_month iri) (Some (Typed GYearMonth)) (
    cond (bytes_eq xsd_date iri) (Some (Typed Date)) (
    cond (bytes_eq xsd_date_time iri) (Some (Typed DateTime)) (
    cond (bytes_eq xsd_string iri) (Some Text) None))))

-- a datatype of dates has its one form, and a string all four
abbrev pub forms_of : Datatype → List Form
forms_of (Typed form) = form ∷ []
forms_of Text = GYear ∷ GYearMonth ∷ Date ∷ DateTime ∷ []

-- the text is one of the form's
abbrev pub has_form : List ℕ → Form → Bool
has_form text form = nullable (after (spelling form) text)

-- the text begins one of some form's texts
abbrev pub begins : List Form → List ℕ → Bool
begins forms text = list_any (λ form. not (is_barren (after (spelling form) text))) forms

-- the greatest number up to n of bytes of the text that begin such a text
abbrev pub longest : List Form → List ℕ → ℕ → ℕ
longest forms text zero = 0
longest forms text (suc n) = cond (begins forms (take (suc n) text)) (suc n) (longest forms text n)

abbrev pub front : List Form → List ℕ → ℕ
front forms text = longest forms text (length text)

abbrev pub form_or : ℕ → Option Form → Result Form ℕ
form_or at (Some form) = Ok form
form_or at None = Err at

-- the form of the text, or how many bytes of it begin some text of the forms
abbrev pub form_in : Datatype → List ℕ → Result Form ℕ
form_in datatype text = form_or (front (forms_of datatype) text) (find (has_form text) (forms_of datatype))
