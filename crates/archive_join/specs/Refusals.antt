-- What is printed of a file that is refused among several.
use Rattle.std.specs.Prelude.{ℕ, ◌++◌, List, codes}
use Rattle.std.specs.Fmt.{decimal}
use Rattle.rdf_terms.specs.declared.terms.Refusal.{Refusal}
use Rattle.report_base.specs.Reports.{Report}
use Rattle.report_base.specs.declared.status.Status.TheVariants.{Refused}
use Rattle.record_reports.specs.RecordReports.{code_name}

-- the line of a refusal of file k
abbrev pub file_refusal_text : ℕ → Refusal → List ℕ
file_refusal_text k f = codes "refused f" ++ (decimal k ++ (codes " " ++ (code_name f.code ++ (codes " at " ++ (decimal f.at ++ codes "\n")))))

abbrev pub file_refusal_report : ℕ → Refusal → Report
file_refusal_report k f = record { status = Refused; text = file_refusal_text k f }
