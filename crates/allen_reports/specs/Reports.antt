-- The reports of legacy properties and of relations.
use Rattle.std.specs.Prelude.{ℕ, List, ◌++◌, codes, Option, Some, None, Result, Ok, Err}
use Rattle.std.specs.Fmt.{decimal}
use Rattle.rdf_terms.specs.declared.terms.Code.{Code}
use Rattle.rdf_terms.specs.declared.terms.Code.TheVariants as code
use Rattle.rdf_terms.specs.declared.terms.Refusal.{Refusal}
use Rattle.rdf_terms.specs.declared.terms.Triple.{Triple}
use Rattle.rdf_terms.specs.declared.triples.Records.{Records}
use Rattle.rdf_terms.specs.Naming.{NameLists}
use Rattle.crm_outside.specs.Printing.{lines_from}
use Rattle.ntriples_writer.specs.Lines.{canonical_line}
use Rattle.order_core.specs.Sets.{Orders}
use Rattle.order_analysis.specs.Subjects.{cycle_of}
use Rattle.boundary_orders.specs.Dossiers.{Findings}
use Rattle.reason_report.specs.Reason.{inconsistent_text}
use Rattle.report_base.specs.declared.status.Status.{Status}
use Rattle.report_base.specs.declared.status.Status.TheVariants.{Done, Findings as HasFindings, Refused}
use Rattle.report_base.specs.Reports.{Report, findings_from, within_limits}
use Rattle.report_base.specs.Texts.{extents_text}
use Rattle.period_names.specs.declared.asking.Period.{Period}
use Rattle.period_names.specs.Naming.{period_named, period_lines, no_period_report}
use Rattle.crm_legacy.specs.Modern.{modern_of}
use Rattle.allen_reports.specs.Relations.{rows_text, examples_text}

abbrev pub code_name : Code → List ℕ
code_name code.U1 = codes "U1"
code_name code.G1 = codes "G1"
code_name code.G2 = codes "G2"
code_name code.G3 = codes "G3"
code_name code.G4 = codes "G4"
code_name code.G5 = codes "G5"
code_name code.G6 = codes "G6"
code_name code.L1 = codes "L1"
code_name code.L2 = codes "L2"
code_name code.L3 = codes "L3"
code_name code.L4 = codes "L4"
code_name code.L5 = codes "L5"
code_name code.L6 = codes "L6"
code_name code.L7 = codes "L7"
code_name code.L8 = codes "L8"
code_name code.L9 = codes "L9"

abbrev pub refusal_report : Refusal → Report
refusal_report f = record { status = Refused; text = codes "refused " ++ (code_name f.code ++ (codes " at " ++ (decimal f.at ++ codes "\n"))) }

-- a report of the records in today's properties, or their refusal
abbrev pub of_modern : (Records → Report) → Result Records Refusal → Report
of_modern report (Ok m) = report m
of_modern report (Err f) = refusal_report f

abbrev pub lines_text : NameLists → List Triple → List ℕ
lines_text names triples = lines_from (λ _ t. canonical_line names t) 0 triples

-- the canonical lines of the triples
abbrev pub lines_report : Records → Report
lines_report m = record { status = Done; text = lines_text m.names m.triples }

-- the triples in today's properties
abbrev pub legacy_report : Records → Report
legacy_report r = of_modern lines_report (modern_of r)

-- the cycle that refutes the orders, or else a text; with `Findings`, or else `Done`
abbrev pub text_by : Option (List ℕ) → List ℕ → List ℕ
text_by None text = text
text_by (Some cycle) text = inconsistent_text cycle

abbrev pub status_by : Option (List ℕ) → Status
status_by None = Done
status_by (Some cycle) = HasFindings

abbrev pub consistent_text : Orders → List ℕ → List ℕ
consistent_text set periods = codes "consistent\n" ++ rows_text set.list periods

abbrev pub relations_text : NameLists → Findings → List ℕ
relations_text names found =
    extents_text names found.extents
    ++ text_by (cycle_of found.orders) (consistent_text found.orders found.periods)

abbrev pub relations_report : NameLists → Findings → Report
relations_report names found = record { status = status_by (cycle_of found.orders); text = relations_text names found }

-- the possible relations of each two periods
abbrev pub table_report : Records → Report
table_report m = within_limits (findings_from m) (relations_report m.names (findings_from m))

abbrev pub allen_report : Records → Report
allen_report r = of_modern table_report (modern_of r)

-- the possible relations of two periods, each with a placing that has it
abbrev pub pair_text : NameLists → Orders → Period → Period → List ℕ
pair_text names set a b = period_lines names a b ++ text_by (cycle_of set) (examples_text set a.number b.number)

abbrev pub pair_report : NameLists → Orders → Period → Period → Report
pair_report names set a b = record { status = status_by (cycle_of set); text = pair_text names set a b }

-- the first of the two words that names no period, else the relations
abbrev pub named_report : NameLists → Findings → List ℕ → List ℕ → Option Period → Option Period → Report
named_report names found a b None right = no_period_report a
named_report names found a b (Some x) None = no_period_report b
named_report names found a b (Some x) (Some y) = pair_report names found.orders x y

abbrev pub periods_report : NameLists → Findings → List ℕ → List ℕ → Report
periods_report names found a b = named_report names found a b (period_named names found.extents a) (period_named names found.extents b)

abbrev pub question_report : List ℕ → List ℕ → Records → Report
question_report a b m = within_limits (findings_from m) (periods_report m.names (findings_from m) a b)

-- the possible relations of the period that a names to the one that b names
abbrev pub allen_pair_report : Records → List ℕ → List ℕ → Report
allen_pair_report r a b = of_modern (question_report a b) (modern_of r)
