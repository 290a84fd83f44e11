-- What is printed of the dates around the boundaries.
use Rattle.std.specs.Prelude.{ℕ, ◌≡◌, Bool, length, List, ◌++◌, Option, None, Some, if◌then◌else◌, cond, is_none, codes}
use Rattle.order_laws.specs.declared.Point.{Point}
use Rattle.order_laws.specs.declared.Point.TheVariants.{Date}
use Rattle.order_laws.specs.Tables.{IsPoint, boundaries, is_strict}
use Rattle.order_laws.specs.Closure.{reach_between}
use Rattle.order_core.specs.Sets.{Orders}
use Rattle.crm_outside.specs.Printing.{lines_from}
use Rattle.order_texts.specs.Texts.{point_text}
use Rattle.order_analysis.specs.Subjects.{cycle_of}
use Rattle.reason_report.specs.Reason.{reason_text, delay_line, plain_line, text_by}
use Rattle.dating_bounds.specs.declared.extremes.DateBound.{DateBound}
use Rattle.dating_bounds.specs.Around.{bound_of}
use Rattle.rdf_terms.specs.declared.triples.Records.{Records}
use Rattle.rdf_terms.specs.Naming.{NameLists}
use Rattle.boundary_orders.specs.Dossiers.{Findings}
use Rattle.report_base.specs.declared.status.Status.{Status}
use Rattle.report_base.specs.declared.status.Status.TheVariants.{Done, Findings as HasFindings}
use Rattle.report_base.specs.Texts.{orders_text}
use Rattle.report_base.specs.Reports.{Report, findings_from, within_limits}

-- both are points of the set, and the flag tells whether `<` follows from the one to the other
pub record IsKnown (set : Orders) (x y : Point) (strict : Bool) : Type 0 where
  pub from : IsPoint set.extents (length set.dates) x
  pub to : IsPoint set.extents (length set.dates) y
  pub strictly : strict ≡ is_strict (reach_between set.list x y)

abbrev pub above_text : Bool → List ℕ
above_text strict = if strict then codes " > " else codes " >= "

abbrev pub below_text : Bool → List ℕ
below_text strict = if strict then codes " < " else codes " <= "

-- a date, and the chain that leads from one point to another
abbrev pub dated_text : Orders → ℕ → Point → Point → List ℕ
dated_text set date x y = point_text (Date date) ++ (codes " by" ++ (reason_text set.list x y ++ codes "\n"))

-- a date that bounds a boundary from below, with the chain from the date to the boundary, or none
abbrev pub low_text : Orders → Point → Option DateBound → List ℕ
low_text set p None = codes " none\n"
low_text set p (Some bound) = above_text bound.strict ++ dated_text set bound.date (Date bound.date) p

-- one that bounds it from above, with the chain from the boundary to the date
abbrev pub high_text : Orders → Point → Option DateBound → List ℕ
high_text set p None = codes " none\n"
high_text set p (Some bound) = below_text bound.strict ++ dated_text set bound.date p (Date bound.date)

unfoldable pub low_line : Orders → Point → Option DateBound → List ℕ
low_line set p bound = codes "low " ++ (point_text p ++ low_text set p bound)

unfoldable pub high_line : Orders → Point → Option DateBound → List ℕ
high_line set p bound = codes "high " ++ (point_text p ++ high_text set p bound)

-- the lines of both bounds of a boundary
abbrev pub bound_lines : Orders → Point → List ℕ
bound_lines set p = low_line set p (bound_of set p).low ++ high_line set p (bound_of set p).high

-- of all boundaries, and the placing that delays each
abbrev pub all_bounds : Orders → List ℕ
all_bounds set = lines_from (λ _ p. bound_lines set p) 0 (boundaries set.extents)

abbrev pub all_delays : Orders → List ℕ
all_delays set = lines_from (λ _ p. delay_line set p) 0 (boundaries set.extents)

-- the plain placing, the bounds of all boundaries, and the placings that delay them
abbrev pub around_text : Orders → List ℕ
around_text set = codes "consistent\n" ++ (plain_line set ++ (all_bounds set ++ all_delays set))

-- the cycle of inconsistent orders, else the dates around the boundaries
abbrev pub dating_text : Orders → List ℕ
dating_text set = text_by (cycle_of set) (around_text set)

-- findings exactly where the orders are inconsistent
abbrev pub status_by : Bool → Status
status_by consistent = cond consistent Done HasFindings

abbrev pub report_text : NameLists → Findings → List ℕ
report_text names found = orders_text names found ++ dating_text found.orders

abbrev pub around_report : NameLists → Findings → Report
around_report names found = record { status = status_by (is_none (cycle_of found.orders)); text = report_text names found }

-- the orders of records, and the dates around their boundaries
abbrev pub bounds_report : Records → Report
bounds_report r = within_limits (findings_from r) (around_report r.names (findings_from r))
