-- What is printed of a judgement, and with which status.
use Rattle.std.specs.Prelude.{◌≡◌, ◌⊎◌, ℕ, List, ◌++◌, codes, Option, None, Some, Result}
use Rattle.std.specs.Fmt.{decimal}
use Rattle.certificate_checker.specs.declared.verdicts.Verdict.{Verdict}
use Rattle.certificate_checker.specs.declared.verdicts.Verdict.TheVariants.{Consistent, Inconsistent, Classes, Matrix}
use Rattle.report_base.specs.declared.status.Status.{Status}
use Rattle.report_base.specs.declared.status.Status.TheVariants.{Done, Findings as HasFindings, Refused}
use Rattle.rdf_terms.specs.declared.triples.Records.{Records}
use Rattle.rdf_chars.specs.Utf8.{IsUtf8Length}
use Rattle.certificate_trees.specs.declared.refusals.CertRefusal.{CertRefusal}
use Rattle.certificate_trees.specs.declared.refusals.CertRefusal.TheVariants.{K1, K2, K3, K4, K5, K6, Memory}
use Rattle.certificate_checker.specs.Verified.{IsVerified}
use Rattle.certificate_checker.specs.Texts.{CertificateForm, IsRefusedAs}
use Rattle.report_base.specs.declared.status.ReportFault.{ReportFault}
use Rattle.report_base.specs.Reports.{Report, Writes, findings_from, within_limits}
use Rattle.crm_certify.specs.Types.{types_in, due_in}

abbrev pub verdict_text : Verdict → List ℕ
verdict_text Consistent = codes "verified consistent\n"
verdict_text Inconsistent = codes "verified inconsistent\n"
verdict_text Classes = codes "verified classes\n"
verdict_text Matrix = codes "verified matrix\n"

-- only a cycle is a finding
abbrev pub verdict_status : Verdict → Status
verdict_status Consistent = Done
verdict_status Inconsistent = HasFindings
verdict_status Classes = Done
verdict_status Matrix = Done

abbrev pub verdict_report : Verdict → Report
verdict_report v = record { status = verdict_status v; text = verdict_text v }

-- the refusal of a certificate
abbrev pub refused_at : List ℕ → ℕ → Report
refused_at code at = record { status = Refused; text = codes "refused certificate " ++ (code ++ (codes " at " ++ (decimal at ++ codes "\n"))) }

-- by the code and the place of its first fault; want of memory is none
abbrev pub refusal_report : CertRefusal → Option Report
refusal_report (K1 at) = Some (refused_at (codes "K1") at)
refusal_report (K2 at) = Some (refused_at (codes "K2") at)
refusal_report (K3 at) = Some (refused_at (codes "K3") at)
refusal_report (K4 at) = Some (refused_at (codes "K4") at)
refusal_report (K5 at) = Some (refused_at (codes "K5") at)
refusal_report (K6 at) = Some (refused_at (codes "K6") at)
refusal_report Memory = None

-- the records bear out what the verdict claims, by their orders, their types and the triples that have fault C2
abbrev pub IsBorneOut : Records → List ℕ → Verdict → Type 0
IsBorneOut r cert v = IsVerified (findings_from r).orders (findings_from r).periods (types_in r) (due_in r) cert v

-- the place from which the text is no UTF-8, a verdict that the records bear out, or why the text is refused: K1 and K2 exactly at their places
abbrev pub IsJudgement : Records → List ℕ → Report → Type 0
IsJudgement records cert r =
    ((at : ℕ) × (IsUtf8Length cert at × (r ≡ refused_at (codes "U1") at)))
    ⊎ (((v : Verdict) × ((r ≡ verdict_report v) × IsBorneOut records cert v))
    ⊎ ((f : CertRefusal) × ((refusal_report f ≡ Some r) × IsRefusedAs CertificateForm 64 cert 0 f)))

module _ {S : Type 0} (written : S → Option (List ℕ)) (faults sure : S → ℕ) (old new : S) where
  abbrev pub WritesJudged : Records → List ℕ → Result Status ReportFault → Type 0
  WritesJudged records cert result = (r : Report) × (IsJudgement records cert r × Writes written faults sure old new r result)

  -- within the limits of the counts of extents, dates and orders
  abbrev pub WritesVerdict : Records → List ℕ → Result Status ReportFault → Type 0
  WritesVerdict records cert result =
      (r : Report) × (IsJudgement records cert r × Writes written faults sure old new (within_limits (findings_from records) r) result)
