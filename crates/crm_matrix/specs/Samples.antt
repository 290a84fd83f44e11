-- The sample: records made from a number, and what is printed of them.
use Rattle.std.specs.Prelude.{zero, suc, ℕ, ◌+◌, ◌%◌, ◌==◌, ◌∷◌, ◌++◌, max, nat_lt, is_none, if◌then◌else◌, List, [], length, codes}
use Rattle.std.specs.List.{flat_map, fold}
use Rattle.std.specs.Fmt.{decimal}
use Rattle.rdf_terms.specs.declared.terms.Triple.{Triple}
use Rattle.rdf_terms.specs.declared.triples.Records.{Records}
use Rattle.crm_type_check.specs.declared.Fault.{Fault}
use Rattle.order_core.specs.Sets.{Orders}
use Rattle.order_texts.specs.Texts.{count_line}
use Rattle.harris_matrix.specs.declared.cells.Cell.{Cell}
use Rattle.harris_matrix.specs.Matrices.{Cells}
use Rattle.boundary_orders.specs.Dossiers.{Findings}
use Rattle.order_analysis.specs.Subjects.{cycle_of}
use Rattle.reason_report.specs.Reason.{text_by}
use Rattle.reason_report.specs.Relations.{relations_of, count_primitives}
use Rattle.report_base.specs.Reports.{Report, faults_in, findings_from, within_limits}
use Rattle.crm_matrix.specs.MatrixTexts.{matrix_of, status_of}

-- the IRI of a context
abbrev pub context_text : ℕ → List ℕ
context_text i = codes "<http://e/c" ++ (decimal i ++ codes ">")

-- it is a stratigraphic genesis
unfoldable pub class_line : ℕ → List ℕ
class_line i =
    context_text i
    ++ codes " <http://www.w3.org/1999/02/22-rdf-syntax-ns#type> <http://www.cidoc-crm.org/extensions/crmarchaeo/A4_Stratigraphic_Genesis> .\n"

-- it is before another
unfoldable pub before_line : ℕ → ℕ → List ℕ
before_line i j = context_text i ++ (codes " <urn:crmtime:AP13-before> " ++ (context_text j ++ codes " .\n"))

-- before the one so many behind it, where there is one
abbrev pub before_text : ℕ → ℕ → ℕ → List ℕ
before_text n i d = if nat_lt (i + d) n then before_line i (i + d) else []

-- it has a time-span
unfoldable pub span_line : ℕ → List ℕ
span_line i = context_text i ++ (codes " <http://www.cidoc-crm.org/cidoc-crm/P4_has_time-span> _:s" ++ (decimal i ++ codes " .\n"))

-- a property of the time-span
unfoldable pub span_text : ℕ → List ℕ → List ℕ
span_text i property = codes "_:s" ++ (decimal i ++ (codes " <http://www.cidoc-crm.org/cidoc-crm/" ++ (property ++ codes "> ")))

-- with a year as its value
unfoldable pub year_line : ℕ → List ℕ → ℕ → List ℕ
year_line i property year = span_text i property ++ (codes "\"" ++ (decimal year ++ codes "\"^^<http://www.w3.org/2001/XMLSchema#gYear> .\n"))

abbrev pub dated_text : ℕ → List ℕ
dated_text i = span_line i ++ (year_line i (codes "P82a_begin_of_the_begin") (i + 1000) ++ year_line i (codes "P82b_end_of_the_end") (i + 1030))

-- the lines of a context: every fortieth is dated
abbrev pub context_lines : ℕ → ℕ → List ℕ
context_lines n i =
    class_line i ++ (flat_map (before_text n i) (4 ∷ 5 ∷ 6 ∷ 7 ∷ []) ++ (if i % 40 == 0 then dated_text i else []))

-- the lines of the first of n contexts
abbrev pub first_contexts : ℕ → ℕ → List ℕ
first_contexts n zero = []
first_contexts n (suc i) = first_contexts n i ++ context_lines n i

-- the sample of n contexts, as N-Triples
unfoldable pub sample_file : ℕ → List ℕ
sample_file n = first_contexts n n

-- one more than the greatest level
abbrev pub count_levels : List Cell → ℕ
count_levels cells = fold (λ count cell. max count (cell.level + 1)) 0 cells

-- the counts of contexts, triples and faults
unfoldable pub record_counts : ℕ → List Triple → List Fault → List ℕ
record_counts n triples faults =
    count_line (codes "sample") n ++ (count_line (codes "triples") (length triples) ++ count_line (codes "faults") (length faults))

-- the counts of extents, dates and orders
unfoldable pub order_counts : Orders → List ℕ
order_counts set =
    count_line (codes "extents") set.extents ++ (count_line (codes "dates") (length set.dates) ++ count_line (codes "orders") (length set.list))

abbrev pub counts_text : ℕ → List Triple → List Fault → Orders → List ℕ
counts_text n triples faults set = record_counts n triples faults ++ order_counts set

-- the counts of cells, covers and levels
unfoldable pub cell_counts : Cells → List ℕ
cell_counts m =
    count_line (codes "cells") (length m.cells)
    ++ (count_line (codes "covers") (length m.covers) ++ count_line (codes "levels") (count_levels m.cells))

-- the count of the primitives that follow between periods, and those of the matrix
unfoldable pub matrix_counts : ℕ → Cells → List ℕ
matrix_counts relations m = codes "consistent\n" ++ (count_line (codes "relations") relations ++ cell_counts m)

abbrev pub following_text : Orders → List ℕ → List ℕ
following_text set periods = matrix_counts (count_primitives (relations_of set.list periods)) (matrix_of set.list periods)

abbrev pub counts_or_cycle : Orders → List ℕ → List ℕ
counts_or_cycle set periods = text_by (cycle_of set) (following_text set periods)

abbrev pub sample_text : ℕ → List Triple → List Fault → Orders → List ℕ → List ℕ
sample_text n triples faults set periods = counts_text n triples faults set ++ counts_or_cycle set periods

abbrev pub counts_report : ℕ → List Triple → List Fault → Findings → Report
counts_report n triples faults found = record {
  status = status_of (is_none (cycle_of found.orders));
  text = sample_text n triples faults found.orders found.periods;
}

abbrev pub sample_found : ℕ → Records → Report
sample_found n r = counts_report n r.triples (faults_in r) (findings_from r)

-- what is printed of the records of a sample, within the limits
abbrev pub records_report : ℕ → Records → Report
records_report n r = within_limits (findings_from r) (sample_found n r)
