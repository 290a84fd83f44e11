-- What is printed of the sample, which is read as a file.
use Rattle.std.specs.Prelude.{ℕ, true, None}
use Rattle.rdf_reading.specs.Answers.{Answer}
use Rattle.rdf_reading.specs.Answers.Answer.{Refuse, Read}
use Rattle.report_base.specs.Reports.{Report}
use Rattle.record_reports.specs.RecordReports.{refusal_report}
use Rattle.crm_matrix.specs.Samples.{records_report, sample_file}
use Rattle.crm_core.specs.Files.{file_answer}

-- by the answer to the file
abbrev pub answer_report : ℕ → Answer → Report
answer_report n (Refuse code at) = refusal_report (record { code = code; at = at })
answer_report n (Read r) = records_report n r

-- what is printed of the sample of n contexts
abbrev pub sample_report : ℕ → Report
sample_report n = answer_report n (file_answer true None (sample_file n))
