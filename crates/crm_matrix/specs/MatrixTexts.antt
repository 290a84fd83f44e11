-- What is printed of the Harris matrix of records.
use Rattle.std.specs.Prelude.{zero, suc, ℕ, ◌+◌, ◌==◌, ◌&&◌, Bool, cond, not, max, Option, None, Some, is_none, if◌then◌else◌, List, [], ◌++◌, length, map, codes, slice_get, slice_index_or, position}
use Rattle.std.specs.List.{flat_map, range_with_len}
use Rattle.std.specs.Option.{option_and_then}
use Rattle.std.specs.Fmt.{decimal}
use Rattle.rdf_terms.specs.declared.terms.Term.{Term}
use Rattle.rdf_terms.specs.declared.terms.Triple.{Triple}
use Rattle.rdf_terms.specs.declared.triples.Records.{Records}
use Rattle.rdf_terms.specs.Terms.{same_term}
use Rattle.rdf_terms.specs.Fitting.{is_literal}
use Rattle.rdf_terms.specs.Naming.{NameLists}
use Rattle.crm_outside.specs.Printing.{lines_from}
use Rattle.ntriples_writer.specs.Lines.{term_text}
use Rattle.crm_properties.specs.declared.Prop.{Prop}
use Rattle.crm_properties.specs.PropertyNumbers.{ap7}
use Rattle.crm_type_check.specs.Meaning.{property_of}
use Rattle.crm_type_check.specs.Faults.{domain_end, range_end}
use Rattle.order_laws.specs.declared.Order.{Order}
use Rattle.order_laws.specs.Closure.{reach_between}
use Rattle.order_core.specs.Sets.{Orders}
use Rattle.order_texts.specs.Texts.{count_line}
use Rattle.harris_matrix.specs.declared.cells.Cell.{Cell}
use Rattle.harris_matrix.specs.declared.cells.CellPair.{CellPair}
use Rattle.harris_matrix.specs.Cells.{members}
use Rattle.harris_matrix.specs.Covers.{all_covers}
use Rattle.harris_matrix.specs.Matrices.{Cells, least_of, is_before}
use Rattle.boundary_orders.specs.Dossiers.{Findings}
use Rattle.order_analysis.specs.Subjects.{cycle_of}
use Rattle.reason_report.specs.Reason.{text_by, period_text}
use Rattle.report_base.specs.declared.status.Status.{Status}
use Rattle.report_base.specs.declared.status.Status.TheVariants.{Done, Findings as HasFindings}
use Rattle.report_base.specs.Texts.{extents_text}
use Rattle.report_base.specs.Reports.{Report, findings_from, within_limits}

-- one more than the greatest height among the first cells that pass the test, or 0 where none does
abbrev pub above : ℕ → (ℕ → Bool) → (ℕ → ℕ) → ℕ
above zero test height = 0
above (suc k) test height = max (above k test height) (cond (test k) (height k + 1) 0)

-- the greatest number of cells, but at most n, in a list that ends before cell j, each before the next
abbrev pub height_within : (ℕ → ℕ → Bool) → ℕ → ℕ → ℕ → ℕ
height_within before count zero j = 0
height_within before count (suc n) j = above count (λ k. before k j) (height_within before count n)

-- the level of a cell among so many; no such list repeats a cell
abbrev pub level_of : (ℕ → ℕ → Bool) → ℕ → ℕ → ℕ
level_of before count j = height_within before count count j

-- the cell of a number, with its periods and its level
abbrev pub cell_at : List Order → List ℕ → ℕ → Cell
cell_at orders periods c = record {
  extents = members (reach_between orders) periods (slice_index_or (least_of orders periods) c 0);
  level = level_of (is_before orders periods) (length (least_of orders periods)) c;
}

-- the Harris matrix of periods over orders without a cycle
unfoldable pub matrix_of : List Order → List ℕ → Cells
matrix_of orders periods = record {
  cells = map (cell_at orders periods) (range_with_len 0 (length (least_of orders periods)));
  covers = all_covers (is_before orders periods) (length (least_of orders periods));
}

-- the line of a cell: its number, its level and its periods
unfoldable pub cell_line : ℕ → Cell → List ℕ
cell_line c cell = codes "c" ++ (decimal c ++ (codes " level " ++ (decimal cell.level ++ (flat_map period_text cell.extents ++ codes "\n"))))

-- the line of a cover: the cell that is before, and the one that it covers
unfoldable pub cover_line : CellPair → List ℕ
cover_line p = codes "c" ++ (decimal p.first ++ (codes " c" ++ (decimal p.second ++ codes "\n")))

abbrev pub counted_cells : List Cell → List ℕ
counted_cells cells = count_line (codes "cells") (length cells) ++ lines_from cell_line 0 cells

abbrev pub counted_covers : List CellPair → List ℕ
counted_covers covers = count_line (codes "covers") (length covers) ++ lines_from (λ _ p. cover_line p) 0 covers

-- the cells and the covers, with their counts
abbrev pub cells_text : Cells → List ℕ
cells_text m = counted_cells m.cells ++ counted_covers m.covers

-- the event and the unit of a triple that says that the one produced the other; a literal is no unit
abbrev pub production_by : Triple → Option Prop → Option (Term × Term)
production_by t None = None
production_by t (Some p) = if p.code == ap7 && not (is_literal (range_end p t)) then Some (domain_end p t, range_end p t) else None

abbrev pub production_of : NameLists → Triple → Option (Term × Term)
production_of names t = production_by t (property_of names t.p)

abbrev pub number_by : ℕ → Option (Term × Bool) → Option ℕ
number_by k None = None
number_by k (Some e) = if e.1 then Some k else None

-- the number of the extent that the node is, where that is a period
abbrev pub period_number : List (Term × Bool) → Term → Option ℕ
period_number extents node = option_and_then (λ k. number_by k (slice_get extents k)) (position (λ e. same_term node e.0) extents)

-- the line of a unit, with the number of the period that produced it
unfoldable pub unit_line : NameLists → Term → ℕ → List ℕ
unit_line names unit k = codes "x" ++ (decimal k ++ (codes " unit " ++ (term_text names unit ++ codes "\n")))

abbrev pub unit_at : NameLists → Term → Option ℕ → List ℕ
unit_at names unit None = []
unit_at names unit (Some k) = unit_line names unit k

abbrev pub unit_by : NameLists → List (Term × Bool) → Option (Term × Term) → List ℕ
unit_by names extents None = []
unit_by names extents (Some (event, unit)) = unit_at names unit (period_number extents event)

-- the line of the unit that a triple labels a period with, where it does
abbrev pub unit_text : NameLists → List (Term × Bool) → Triple → List ℕ
unit_text names extents t = unit_by names extents (production_of names t)

abbrev pub units_text : NameLists → List (Term × Bool) → List Triple → List ℕ
units_text names extents triples = lines_from (λ _ t. unit_text names extents t) 0 triples

-- the first cycle of the orders, or the matrix of the periods over them
abbrev pub cells_or_cycle : Orders → List ℕ → List ℕ
cells_or_cycle set periods = text_by (cycle_of set) (cells_text (matrix_of set.list periods))

-- the extents, the units, and the cells or the cycle
abbrev pub matrix_text : NameLists → List Triple → Findings → List ℕ
matrix_text names triples found =
    extents_text names found.extents ++ (units_text names found.extents triples ++ cells_or_cycle found.orders found.periods)

abbrev pub status_of : Bool → Status
status_of consistent = if consistent then Done else HasFindings

abbrev pub matrix_of_found : NameLists → List Triple → Findings → Report
matrix_of_found names triples found = record {
  status = status_of (is_none (cycle_of found.orders));
  text = matrix_text names triples found;
}

abbrev pub matrix_found : Records → Report
matrix_found r = matrix_of_found r.names r.triples (findings_from r)

-- what is printed of the matrix of records, within the limits
abbrev pub matrix_report : Records → Report
matrix_report r = within_limits (findings_from r) (matrix_found r)
