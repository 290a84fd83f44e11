-- The reports of records: their faults, their orders, their triples, and the refusal of a file.
use Rattle.std.specs.Prelude.{ℕ, ◌++◌, List, codes, map}
use Rattle.std.specs.Fmt.{decimal}
use Rattle.rdf_terms.specs.declared.terms.Code.{Code}
use Rattle.rdf_terms.specs.declared.terms.Code.TheVariants as code
use Rattle.rdf_terms.specs.declared.terms.Refusal.{Refusal}
use Rattle.rdf_terms.specs.declared.terms.Triple.{Triple}
use Rattle.rdf_terms.specs.declared.triples.Records.{Records}
use Rattle.rdf_terms.specs.Naming.{NameLists}
use Rattle.crm_outside.specs.Printing.{lines_from}
use Rattle.crm_type_check.specs.Relations.{faults_of}
use Rattle.boundary_orders.specs.Dossiers.{Findings, findings_of}
use Rattle.ntriples_writer.specs.Lines.{canonical_line}
use Rattle.report_base.specs.declared.status.Status.TheVariants.{Done, Refused}
use Rattle.report_base.specs.Texts.{check_text, orders_text}
use Rattle.report_base.specs.Reports.{Report, faults_in, findings_from, status_by, within_limits}

abbrev pub code_name : Code → List ℕ
code_name code.U1 = codes "U1"
code_name code.G1 = codes "G1"
code_name code.G2 = codes "G2"
code_name code.G3 = codes "G3"
code_name code.G4 = codes "G4"
code_name code.G5 = codes "G5"
code_name code.G6 = codes "G6"
code_name code.L1 = codes "L1"
code_name code.L2 = codes "L2"
code_name code.L3 = codes "L3"
code_name code.L4 = codes "L4"
code_name code.L5 = codes "L5"
code_name code.L6 = codes "L6"
code_name code.L7 = codes "L7"
code_name code.L8 = codes "L8"
code_name code.L9 = codes "L9"

-- the canonical lines
abbrev pub convert_text : NameLists → List Triple → List ℕ
convert_text names triples = lines_from (λ _ t. canonical_line names t) 0 triples

-- the line of a refusal by a place
abbrev pub refusal_text : List ℕ → ℕ → List ℕ
refusal_text code at = codes "refused " ++ (code ++ (codes " at " ++ (decimal at ++ codes "\n")))

-- the count of the triples of a pool and their faults, by their pairs of a number and a triple
abbrev pub check_of : NameLists → List (ℕ × Triple) → Report
check_of names pairs = record { status = status_by (faults_of names pairs); text = check_text (map (λ p. p.1) pairs) (faults_of names pairs) }

abbrev pub dossier_of : NameLists → Findings → Report
dossier_of names found = record { status = Done; text = orders_text names found }

-- the extents, dates and orders that were found
abbrev pub found_report : NameLists → Findings → Report
found_report names found = within_limits found (dossier_of names found)

-- and those of the triples of a pool
abbrev pub orders_of : NameLists → List (ℕ × Triple) → Report
orders_of names pairs = found_report names (findings_of names pairs (faults_of names pairs))

-- so it is with the triples of records, numbered from 0
abbrev pub check_report : Records → Report
check_report r = record { status = status_by (faults_in r); text = check_text r.triples (faults_in r) }

abbrev pub dossier_report : Records → Report
dossier_report r = dossier_of r.names (findings_from r)

abbrev pub orders_report : Records → Report
orders_report r = found_report r.names (findings_from r)

abbrev pub convert_report : Records → Report
convert_report r = record { status = Done; text = convert_text r.names r.triples }

abbrev pub refusal_report : Refusal → Report
refusal_report f = record { status = Refused; text = refusal_text (code_name f.code) f.at }
