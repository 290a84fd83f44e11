-- The texts of reports.
use Rattle.std.specs.Prelude.{ℕ, List, ◌++◌, length, codes, cond, Bool}
use Rattle.std.specs.Fmt.{decimal}
use Rattle.rdf_terms.specs.declared.terms.Term.{Term}
use Rattle.rdf_terms.specs.declared.terms.Triple.{Triple}
use Rattle.rdf_terms.specs.Naming.{NameLists}
use Rattle.crm_outside.specs.Printing.{lines_from}
use Rattle.ntriples_writer.specs.Lines.{term_text}
use Rattle.crm_type_check.specs.declared.Fault.{Fault}
use Rattle.crm_type_check.specs.declared.FaultKind.{FaultKind}
use Rattle.crm_type_check.specs.declared.FaultKind.TheVariants.{C1, C2, C3, D1, R1, R2, R3, R4, A1}
use Rattle.boundary_orders.specs.Dossiers.{Findings}
use Rattle.order_texts.specs.Texts.{count_line, dates_text}
use Rattle.order_texts.specs.Texts as order_texts
use Rattle.report_base.specs.Names.{date_kind_name}

-- for a date also what is wrong with it, and where
abbrev pub kind_text : FaultKind → List ℕ
kind_text C1 = codes "C1"
kind_text C2 = codes "C2"
kind_text C3 = codes "C3"
kind_text D1 = codes "D1"
kind_text R1 = codes "R1"
kind_text R2 = codes "R2"
kind_text R3 = codes "R3"
kind_text (R4 e) = codes "R4 " ++ (date_kind_name e.kind ++ (codes " " ++ decimal e.at))
kind_text A1 = codes "A1"

-- the line of a fault: its triple, the place of the triple's object, and the kind
unfoldable pub fault_line : Fault → List ℕ
fault_line f = codes "fault t" ++ (decimal f.triple ++ (codes " at " ++ (decimal f.at ++ (codes " " ++ (kind_text f.kind ++ codes "\n")))))

-- the count of triples, their faults, and the count of these
abbrev pub check_text : List Triple → List Fault → List ℕ
check_text triples faults =
    count_line (codes "triples") (length triples) ++ (lines_from (λ _ f. fault_line f) 0 faults ++ count_line (codes "faults") (length faults))

abbrev pub sort_text : Bool → List ℕ
sort_text period = cond period (codes " period ") (codes " span ")

-- the line of an extent with its number
unfoldable pub extent_line : NameLists → ℕ → Term × Bool → List ℕ
extent_line names k e = codes "x" ++ (decimal k ++ (sort_text e.1 ++ (term_text names e.0 ++ codes "\n")))

-- the count of extents, and their lines
abbrev pub extents_text : NameLists → List (Term × Bool) → List ℕ
extents_text names extents = count_line (codes "extents") (length extents) ++ lines_from (extent_line names) 0 extents

-- the extents, the dates and the orders
abbrev pub orders_text : NameLists → Findings → List ℕ
orders_text names found = extents_text names found.extents ++ (dates_text found.orders.dates ++ order_texts.orders_text found.orders.list)

-- the line of a refusal by a count
abbrev pub count_refusal_text : List ℕ → ℕ → List ℕ
count_refusal_text code n = codes "refused " ++ (code ++ (codes " count " ++ (decimal n ++ codes "\n")))
