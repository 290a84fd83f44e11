-- What is printed of certificates, and with which status.
use Rattle.std.specs.Prelude.{◌≡◌, ℕ, List, Option, None, Some, Result}
use Rattle.rdf_terms.specs.declared.triples.Records.{Records}
use Rattle.order_core.specs.Sets.{Orders}
use Rattle.order_analysis.specs.Subjects.{cycle_of}
use Rattle.order_certificates.specs.Cycles.{cycle_text}
use Rattle.order_certificates.specs.OrderCertificates.{consistent_text}
use Rattle.reason_report.specs.Reason.{inconsistent_text}
use Rattle.report_base.specs.declared.status.Status.{Status}
use Rattle.report_base.specs.declared.status.Status.TheVariants.{Done, Findings as HasFindings}
use Rattle.report_base.specs.declared.status.ReportFault.{ReportFault}
use Rattle.report_base.specs.Reports.{Report, Writes, findings_from, within_limits}
use Rattle.crm_certify.specs.Lengths.{IsCertificate, WritesSome, within_length}
use Rattle.crm_certify.specs.declared.kinds.CertKind.{CertKind}
use Rattle.crm_certify.specs.declared.kinds.CertKind.TheVariants.{Orders as OfOrders, Classes as OfClasses, Matrix as OfMatrix}

abbrev pub consistent_report : Orders → List ℕ → Report
consistent_report set periods = within_length (record { status = Done; text = consistent_text set periods })

abbrev pub cycle_report : List ℕ → Report
cycle_report cycle = within_length (record { status = HasFindings; text = cycle_text cycle })

abbrev pub orders_report_by : Option (List ℕ) → Orders → List ℕ → Report
orders_report_by None set periods = consistent_report set periods
orders_report_by (Some cycle) set periods = cycle_report cycle

-- the certificate of orders over periods
abbrev pub orders_report : Orders → List ℕ → Report
orders_report set periods = orders_report_by (cycle_of set) set periods

-- the certificate of the orders of records
abbrev pub orders_certificate : Records → Report
orders_certificate r = within_limits (findings_from r) (orders_report (findings_from r).orders (findings_from r).periods)

-- for inconsistent orders the cycle stands in place of a matrix
abbrev pub IsMatrixReport : Option (List ℕ) → Report → Type 0
IsMatrixReport None r = IsCertificate r
IsMatrixReport (Some cycle) r = r ≡ record { status = HasFindings; text = inconsistent_text cycle }

module _ {S : Type 0} (written : S → Option (List ℕ)) (faults sure : S → ℕ) (old new : S) where
  abbrev pub WritesMatrix : Option (List ℕ) → Result Status ReportFault → Type 0
  WritesMatrix found result = (matrix : Report) × (IsMatrixReport found matrix × Writes written faults sure old new matrix result)

  -- within the limits of their counts
  abbrev pub WritesMatrixOf : Records → Result Status ReportFault → Type 0
  WritesMatrixOf r result =
      (matrix : Report) × (IsMatrixReport (cycle_of (findings_from r).orders) matrix × Writes written faults sure old new (within_limits (findings_from r) matrix) result)

  abbrev pub WritesCertificate : Records → CertKind → Result Status ReportFault → Type 0
  WritesCertificate r OfOrders result = Writes written faults sure old new (orders_certificate r) result
  WritesCertificate r OfClasses result = WritesSome written faults sure old new result
  WritesCertificate r OfMatrix result = WritesMatrixOf r result
