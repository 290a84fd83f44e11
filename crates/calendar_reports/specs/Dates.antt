-- What is printed of periods by dates of the calendar.
use Rattle.std.specs.Prelude.{ℕ, ℤ, Bool, cond, is_none, length, List, [], ◌++◌, codes, Option, None, Some, slice_get}
use Rattle.std.specs.Fmt.{decimal}
use Rattle.order_laws.specs.declared.Point.{Point}
use Rattle.order_laws.specs.declared.Point.TheVariants.{Start, End}
use Rattle.order_core.specs.Sets.{Orders}
use Rattle.crm_outside.specs.Printing.{lines_from}
use Rattle.calendar_dates.specs.Texts.{instant_text}
use Rattle.order_texts.specs.Texts.{count_line}
use Rattle.order_analysis.specs.Subjects.{cycle_of}
use Rattle.reason_report.specs.Reason.{text_by}
use Rattle.dating_bounds.specs.declared.extremes.DateBound.{DateBound}
use Rattle.dating_bounds.specs.Around.{bound_of}
use Rattle.rdf_terms.specs.declared.terms.Term.{Term}
use Rattle.rdf_terms.specs.declared.triples.Records.{Records}
use Rattle.rdf_terms.specs.Naming.{NameLists}
use Rattle.ntriples_writer.specs.Lines.{term_text}
use Rattle.boundary_orders.specs.Dossiers.{Findings}
use Rattle.report_base.specs.declared.status.Status.{Status}
use Rattle.report_base.specs.declared.status.Status.TheVariants.{Done, Findings as HasFindings}
use Rattle.report_base.specs.Reports.{Report, findings_from, within_limits}

abbrev pub text_at : Option ℤ → List ℕ
text_at None = []
text_at (Some instant) = instant_text instant

-- a date of the set
abbrev pub date_text : Orders → ℕ → List ℕ
date_text set date = text_at (slice_get set.dates date)

-- the last date that a boundary is never before
abbrev pub low_text : Orders → Option DateBound → List ℕ
low_text set None = codes "from .."
low_text set (Some bound) = cond bound.strict (codes "after ") (codes "from ") ++ date_text set bound.date

-- the first date that it is never after
abbrev pub high_text : Orders → Option DateBound → List ℕ
high_text set None = codes " to .."
high_text set (Some bound) = cond bound.strict (codes " before ") (codes " to ") ++ date_text set bound.date

abbrev pub around_text : Orders → Point → List ℕ
around_text set p = low_text set (bound_of set p).low ++ high_text set (bound_of set p).high

-- both boundaries of an extent
abbrev pub span_text : Orders → ℕ → List ℕ
span_text set k = codes " start " ++ (around_text set (Start k) ++ (codes " end " ++ around_text set (End k)))

abbrev pub node_text : NameLists → Option (Term × Bool) → List ℕ
node_text names None = []
node_text names (Some e) = term_text names e.0

abbrev pub name_text : NameLists → ℕ → Option (Term × Bool) → List ℕ
name_text names k e = codes "x" ++ (decimal k ++ (codes " " ++ node_text names e))

-- the line of a period
unfoldable pub period_line : NameLists → List (Term × Bool) → Orders → ℕ → List ℕ
period_line names extents set k = name_text names k (slice_get extents k) ++ (span_text set k ++ codes "\n")

-- the count of periods, and their lines
abbrev pub periods_text : NameLists → List (Term × Bool) → Orders → List ℕ → List ℕ
periods_text names extents set periods =
    count_line (codes "periods") (length periods) ++ lines_from (λ _ k. period_line names extents set k) 0 periods

-- the cycle of inconsistent orders, else the periods
abbrev pub report_text : NameLists → List (Term × Bool) → Orders → List ℕ → List ℕ
report_text names extents set periods = text_by (cycle_of set) (periods_text names extents set periods)

-- findings exactly where the orders are inconsistent
abbrev pub status_by : Bool → Status
status_by consistent = cond consistent Done HasFindings

abbrev pub calendar_report : NameLists → Findings → Report
calendar_report names found = record {
  status = status_by (is_none (cycle_of found.orders));
  text = report_text names found.extents found.orders found.periods;
}

-- the periods of records by dates of the calendar
abbrev pub dates_report : Records → Report
dates_report r = within_limits (findings_from r) (calendar_report r.names (findings_from r))
