-- What is printed of what follows.
use Rattle.std.specs.Prelude.{ℕ, ◌++◌, Bool, cond, List, is_none}
use Rattle.rdf_terms.specs.declared.triples.Records.{Records}
use Rattle.crm_type_check.specs.declared.Fault.{Fault}
use Rattle.order_analysis.specs.Subjects.{cycle_of}
use Rattle.reason_report.specs.Reason.{report_text}
use Rattle.report_base.specs.declared.status.Status.{Status}
use Rattle.report_base.specs.declared.status.Status.TheVariants.{Findings as HasFindings}
use Rattle.report_base.specs.Texts.{check_text, orders_text}
use Rattle.report_base.specs.Reports.{Report, faults_in, findings_from, status_by, within_limits}

-- the faults, the orders, and what follows
abbrev pub reason_text : Records → List ℕ
reason_text r = check_text r.triples (faults_in r) ++ (orders_text r.names (findings_from r) ++ report_text (findings_from r).orders (findings_from r).periods)

abbrev pub status_when : Bool → List Fault → Status
status_when consistent faults = cond consistent (status_by faults) HasFindings

abbrev pub reasons_report : Records → Report
reasons_report r = record { status = status_when (is_none (cycle_of (findings_from r).orders)) (faults_in r); text = reason_text r }

abbrev pub reason_report : Records → Report
reason_report r = within_limits (findings_from r) (reasons_report r)
