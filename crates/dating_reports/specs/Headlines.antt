-- What the lines of the reports say of every placing that satisfies the orders.
use Rattle.std.specs.Prelude.{ℕ, ℤ, ◌<◌, List, ◌++◌, codes}
use Rattle.order_laws.specs.declared.Point.{Point}
use Rattle.order_laws.specs.Tables.{boundaries}
use Rattle.order_core.specs.Sets.{Orders}
use Rattle.crm_outside.specs.Printing.{lines_from}
use Rattle.reason_report.specs.Reason.{plain_line}
use Rattle.dating_bounds.specs.declared.extremes.Bound.{Bound}
use Rattle.dating_bounds.specs.declared.moments.During.{During}
use Rattle.dating_bounds.specs.Around.{IsBoundary, IsBoundOf}
use Rattle.dating_bounds.specs.Moment.{IsDuring}
use Rattle.rdf_terms.specs.declared.triples.Records.{Records}
use Rattle.report_base.specs.Texts.{orders_text, extents_text}
use Rattle.report_base.specs.Reports.{findings_from}
use Rattle.dating_reports.specs.Bounds.{low_line, high_line, all_delays}
use Rattle.dating_reports.specs.When.{during_lines, instant_line}

-- of each boundary the last date that every satisfying placing has at or before it, and the first that every one has at or after it
abbrev pub AreBounds : Orders → (Point → Bound) → Type 0
AreBounds set bounds = (p : Point) → IsBoundary set.extents p → IsBoundOf set p (bounds p)

-- of each extent whether it is under way at the instant in every satisfying placing, in none, or in one and not in another
abbrev pub AreDuring : Orders → ℤ → (ℕ → During) → Type 0
AreDuring set t during = (k : ℕ) → k < set.extents → IsDuring set t k (during k)

-- the text of `bounds` with these bounds
abbrev pub text_of_bounds : Records → (Point → Bound) → List ℕ
text_of_bounds r bounds =
    orders_text r.names (findings_from r)
    ++ (codes "consistent\n" ++ (plain_line (findings_from r).orders
    ++ (lines_from (λ _ p. low_line (findings_from r).orders p (bounds p).low ++ high_line (findings_from r).orders p (bounds p).high) 0 (boundaries (findings_from r).orders.extents)
    ++ all_delays (findings_from r).orders)))

-- the text of `when` where the extents are so
abbrev pub text_of_during : Records → ℤ → (ℕ → During) → List ℕ
text_of_during r t during =
    extents_text r.names (findings_from r).extents
    ++ (instant_line t ++ (codes "consistent\n" ++ lines_from (λ _ k. during_lines k (during k)) 0 (findings_from r).periods))
