-- The last day of a month by its first.
use Rattle.std.proofs.Common.{ℕ, ◌≡◌, ap, ap₂, ◌∙◌}
use Rattle.std.specs.Prelude.{ℤ, pos}
use Rattle.jiff_core.specs.declared.civil.date.Date.{Date}
use Rattle.jiff_core.specs.Date.{epoch_day, month_length, IsYmd}
use Rattle.jiff_core.specs.Calendar.{days_from_civil, days_in_month}

same_number : (a b : ℕ) → pos a ≡ pos b → a ≡ b
same_number a b e = cc

pub month_end : (year : ℤ) (month : ℕ) (first last : Date) (n : ℤ) → first.year ≡ year → pos first.month ≡ pos month →
    IsYmd first.year (pos first.month) (pos (month_length first)) last → n ≡ epoch_day last → n ≡ days_from_civil year month (days_in_month year month)
month_end year month first last n years months ends is =
    let same_month : first.month ≡ month = same_number first.month month months in
    let year_is : last.year ≡ year = ends.0 ∙ years in
    let month_is : last.month ≡ month = same_number last.month first.month ends.1 ∙ same_month in
    let day_is : last.day ≡ days_in_month year month = same_number last.day (month_length first) ends.2 ∙ ap₂ days_in_month years same_month in
    is ∙ ap₂ (λ (y : ℤ) (m : ℕ). days_from_civil y m last.day) year_is month_is ∙ ap (days_from_civil year month) day_is
