-- Reports on records: what is printed, and with which status.
use Rattle.std.specs.Prelude.{◌≡◌, ℕ, List, [], ◌∷◌, length, nat_lt, if◌then◌else◌, codes, Option, Result, IfOk, IfErr, OnOk, ⊤}
use Rattle.rdf_terms.specs.declared.triples.Records.{Records}
use Rattle.triple_pool.specs.Pool.{number_from}
use Rattle.crm_type_check.specs.declared.Fault.{Fault}
use Rattle.crm_type_check.specs.Relations.{faults_of}
use Rattle.boundary_orders.specs.Dossiers.{Findings, findings_of}
use Rattle.crm_outside.specs.Printing.{Printed, Broken}
use Rattle.crm_outside.specs.declared.printing.PrintFault.{PrintFault}
use Rattle.crm_outside.specs.declared.printing.PrintFault.TheVariants as print
use Rattle.report_base.specs.declared.status.Status.{Status}
use Rattle.report_base.specs.declared.status.Status.TheVariants.{Done, Findings as HasFindings, Refused, Usage, ReadFault, WriteFault, Memory}
use Rattle.report_base.specs.declared.status.ReportFault.{ReportFault}
use Rattle.report_base.specs.declared.status.ReportFault.TheVariants as report
use Rattle.report_base.specs.Texts.{count_refusal_text}

-- how a command ends, and what it prints
pub record Report : Type 0 where
  pub status : Status
  pub text : List ℕ

-- the faults of all triples
abbrev pub faults_in : Records → List Fault
faults_in r = faults_of r.names (number_from 0 r.triples)

-- the extents and orders of all triples
abbrev pub findings_from : Records → Findings
findings_from r = findings_of r.names (number_from 0 r.triples) (faults_in r)

abbrev pub status_by : List Fault → Status
status_by [] = Done
status_by (f ∷ fs) = HasFindings

abbrev pub passed : List ℕ → ℕ → Report
passed code n = record { status = Refused; text = count_refusal_text code n }

-- the first limit that is passed, of extents, dates and orders in this sequence; else a report
abbrev pub within_limits : Findings → Report → Report
within_limits found r =
    if nat_lt 2048 (length found.extents) then passed (codes "L6") (length found.extents) else
    if nat_lt 2048 (length found.orders.dates) then passed (codes "L7") (length found.orders.dates) else
    if nat_lt 65536 (length found.orders.list) then passed (codes "L8") (length found.orders.list) else r

-- a fault of a report as a fault of printing
abbrev pub print_fault : ReportFault → PrintFault
print_fault report.Failed = print.Failed
print_fault report.Memory = print.Memory

-- A report that is written whole ends so; `Usage` ends those whose own status it is.
abbrev pub IsEnding : Status → Type 0
IsEnding Done = ⊤
IsEnding HasFindings = ⊤
IsEnding Refused = ⊤
IsEnding Usage = ⊤
IsEnding ReadFault = ⊥
IsEnding WriteFault = ⊥
IsEnding Memory = ⊥

module _ {S : Type 0} (written : S → Option (List ℕ)) (faults sure : S → ℕ) (old new : S) where
  -- the text of a report is printed whole, with its status, or breaks off with a fault
  pub record Writes (r : Report) (result : Result Status ReportFault) : Type 0 where
    pub status : IfOk result (λ s. (s ≡ r.status) × IsEnding s)
    pub ok : OnOk result (Printed written faults sure old new r.text)
    pub err : IfErr result (λ f. Broken written faults sure old new r.text (print_fault f))
