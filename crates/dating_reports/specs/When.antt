-- What is printed of the periods at an instant.
use Rattle.std.specs.Prelude.{ℕ, ℤ, ◌≡◌, ◌<◌, ◌+◌, ◌^◌, List, [], ◌++◌, length, is_none, codes}
use Rattle.std.specs.Fmt.{decimal, signed_decimal}
use Rattle.order_laws.specs.declared.Position.{Position}
use Rattle.order_laws.specs.Chains.{HasCycle}
use Rattle.order_core.specs.Sets.{Orders}
use Rattle.order_closure.specs.Closures.{Closed, IsClosureOf}
use Rattle.crm_outside.specs.Printing.{lines_from}
use Rattle.order_texts.specs.Texts.{placing_line}
use Rattle.order_analysis.specs.Subjects.{cycle_of}
use Rattle.reason_report.specs.Reason.{text_by}
use Rattle.dating_bounds.specs.declared.moments.During.{During}
use Rattle.dating_bounds.specs.declared.moments.During.TheVariants.{Surely, Never, Maybe}
use Rattle.dating_bounds.specs.Dated.{dated, place_of}
use Rattle.dating_bounds.specs.Moment.{during_of}
use Rattle.rdf_terms.specs.declared.triples.Records.{Records}
use Rattle.rdf_terms.specs.Naming.{NameLists}
use Rattle.boundary_orders.specs.Dossiers.{Findings}
use Rattle.report_base.specs.Texts.{extents_text}
use Rattle.report_base.specs.Reports.{Report, findings_from, within_limits}
use Rattle.dating_reports.specs.Bounds.{status_by}

-- the line of an extent's number behind a word
unfoldable pub word_line : List ℕ → ℕ → List ℕ
word_line word k = word ++ (codes " x" ++ (decimal k ++ codes "\n"))

abbrev pub maybe_lines : ℕ → List Position → List Position → List ℕ
maybe_lines k inside outside = word_line (codes "maybe") k ++ (placing_line (codes "in") inside ++ placing_line (codes "out") outside)

-- whether an extent is under way, and where it may be, a placing in which it is and one in which it is not
abbrev pub during_lines : ℕ → During → List ℕ
during_lines k Surely = word_line (codes "surely") k
during_lines k Never = word_line (codes "never") k
during_lines k (Maybe inside outside) = maybe_lines k inside outside

-- the instant in nanoseconds since 1970-01-01T00:00:00Z
unfoldable pub instant_line : ℤ → List ℕ
instant_line t = codes "instant " ++ (signed_decimal t ++ codes "\n")

-- the set with the instant among its dates, its closure, and the number of the instant
pub record IsDated (old : Orders) (t : ℤ) (set : Orders) (closure : Closed) (date : ℕ) : Type 0 where
  pub is : set ≡ dated old t
  pub closed : IsClosureOf set closure
  pub place : date ≡ place_of old.dates t

-- consistent orders with their closure and one of their dates, to which two more orders may come
pub record IsMoment (set : Orders) (closure : Closed) (date : ℕ) : Type 0 where
  pub closed : IsClosureOf set closure
  pub consistent : ¬ HasCycle set.list
  pub dated : date < length set.dates
  pub few : length set.list + 2 < 2 ^ 32

-- of a set that has the instant as the date of a number
abbrev pub moment_lines : Orders → ℕ → ℕ → List ℕ
moment_lines set date k = during_lines k (during_of set date k)

abbrev pub moments_text : Orders → ℕ → List ℕ → List ℕ
moments_text set date periods = codes "consistent\n" ++ lines_from (λ _ k. moment_lines set date k) 0 periods

-- the periods at an instant, by what follows from the orders with the instant among their dates
abbrev pub periods_text : Orders → List ℕ → ℤ → List ℕ
periods_text set periods t = moments_text (dated set t) (place_of set.dates t) periods

-- the cycle of the orders, where they have one
abbrev pub cycle_text : Orders → List ℕ
cycle_text set = text_by (cycle_of set) []

-- the cycle of inconsistent orders, else the periods
abbrev pub at_text : Orders → List ℕ → ℤ → List ℕ
at_text set periods t = text_by (cycle_of set) (periods_text set periods t)

abbrev pub moment_text : NameLists → Findings → ℤ → List ℕ
moment_text names found t = extents_text names found.extents ++ (instant_line t ++ at_text found.orders found.periods t)

abbrev pub at_report : NameLists → Findings → ℤ → Report
at_report names found t = record { status = status_by (is_none (cycle_of found.orders)); text = moment_text names found t }

-- the extents of records, the instant, and which periods are under way at it
abbrev pub when_report : Records → ℤ → Report
when_report r t = within_limits (findings_from r) (at_report r.names (findings_from r) t)
