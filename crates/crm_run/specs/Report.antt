-- The whole text that words and files give, with its status.
use Rattle.std.specs.Prelude.{ℕ, ◌+◌, ◌++◌, List, [], ◌∷◌, length, Option, Some, None, codes}
use Rattle.std.specs.List.{filter_map}
use Rattle.std.specs.Option.{option_map}
use Rattle.rdf_terms.specs.declared.triples.Records.{Records}
use Rattle.crm_outside.specs.Shelves.{Files}
use Rattle.rdf_reading.specs.Answers.{Answer}
use Rattle.rdf_reading.specs.Answers.Answer.{Refuse, Read}
use Rattle.report_base.specs.declared.status.Status.TheVariants.{Usage, ReadFault}
use Rattle.report_base.specs.Reports.{Report}
use Rattle.record_reports.specs.RecordReports.{orders_report, check_report, convert_report, refusal_report}
use Rattle.inference_reports.specs.Explained.{explain_report}
use Rattle.inference_reports.specs.Reasons.{reason_report}
use Rattle.allen_reports.specs.Reports.{allen_pair_report, allen_report, legacy_report}
use Rattle.dating_reports.specs.Bounds.{bounds_report}
use Rattle.dating_reports.specs.When.{when_report}
use Rattle.calendar_reports.specs.Dates.{dates_report}
use Rattle.conflict_reports.specs.Texts.{conflicts_report}
use Rattle.crm_matrix.specs.MatrixTexts.{matrix_report}
use Rattle.crm_certify.specs.declared.kinds.CertKind.{CertKind}
use Rattle.crm_certify.specs.declared.kinds.CertKind.TheVariants as kind
use Rattle.crm_certify.specs.Certificates.{orders_certificate}
use Rattle.crm_core.specs.Contents.{Contents}
use Rattle.crm_core.specs.Files.{file_answer, is_ntriples}
use Rattle.archive_join.specs.Archives.{joined, joined_past}
use Rattle.archive_join.specs.Joining.{nothing}
use Rattle.archive_join.specs.Refusals.{file_refusal_report}
use Rattle.crm_core.specs.SampleReports.{sample_report}
use Rattle.command_help.specs.Help.{help_report, version_report}
use Rattle.line_reports.specs.Lines.{lines_report}
use Rattle.command_words.specs.declared.tasks.Listing.{Listing}
use Rattle.command_words.specs.declared.tasks.Listing.TheVariants as listing
use Rattle.command_words.specs.declared.tasks.Query.{Query}
use Rattle.command_words.specs.declared.tasks.Query.TheVariants as query
use Rattle.command_words.specs.declared.tasks.Task.{Task}
use Rattle.command_words.specs.declared.tasks.Task.TheVariants as task
use Rattle.command_words.specs.Tasks.{query_of, task_named}

-- of certificates, that of the orders is told
abbrev pub certificate_report : CertKind → Records → Option Report
certificate_report kind.Orders r = Some (orders_certificate r)
certificate_report other r = None

-- of the records of a file
abbrev pub records_report : Query → Records → Option Report
records_report query.Orders r = Some (orders_report r)
records_report query.Check r = Some (check_report r)
records_report query.Reason r = Some (reason_report r)
records_report (query.Explain a code b) r = Some (explain_report r a code b)
records_report (query.Certify k) r = certificate_report k r
records_report query.Matrix r = Some (matrix_report r)
records_report query.Convert r = Some (convert_report r)
records_report query.Bounds r = Some (bounds_report r)
records_report query.Dates r = Some (dates_report r)
records_report (query.When t) r = Some (when_report r t)
records_report query.Conflicts r = Some (conflicts_report r)
records_report query.Legacy r = Some (legacy_report r)
records_report query.Allen r = Some (allen_report r)
records_report (query.AllenPair a b) r = Some (allen_pair_report r a b)

-- what the bytes of a name say with a base, where the name is held
abbrev pub answer_at : Option (List ℕ) → List ℕ → Option (List ℕ) → Option Answer
answer_at base name None = None
answer_at base name (Some bytes) = Some (file_answer (is_ntriples name) base bytes)

abbrev pub answer_of : Files → Option (List ℕ) → List ℕ → Option Answer
answer_of files base name = answer_at base name (files name)

abbrev pub read_fault_text : List ℕ → List ℕ
read_fault_text name = codes "read fault " ++ (name ++ codes "\n")

abbrev pub read_fault_report : List ℕ → Report
read_fault_report name = record { status = ReadFault; text = read_fault_text name }

-- of a file by its name: that it can't be read, its refusal, or what is said of its records
abbrev pub report_by : List ℕ → (Records → Option Report) → Option Answer → Option Report
report_by name said None = Some (read_fault_report name)
report_by name said (Some (Refuse code at)) = Some (refusal_report (record { code = code; at = at }))
report_by name said (Some (Read r)) = said r

-- why a file is not read, by its number among several and its name, if it is not
abbrev pub part_fault : ℕ → List ℕ → Option Answer → Option Report
part_fault k name None = Some (read_fault_report name)
part_fault k name (Some (Refuse code at)) = Some (file_refusal_report k (record { code = code; at = at }))
part_fault k name (Some (Read r)) = None

abbrev pub first_told : Option Report → Option Report → Option Report
first_told None later = later
first_told (Some r) later = Some r

-- why the first file that is not read is not, behind so many others
abbrev pub parts_fault : Option (List ℕ) → Files → ℕ → List (List ℕ) → Option Report
parts_fault base files k [] = None
parts_fault base files k (name ∷ names) = first_told (part_fault k name (answer_of files base name)) (parts_fault base files (k + 1) names)

-- what a file holds that is read
abbrev pub contents_by : Option (List ℕ) → Option Answer → Option Contents
contents_by (Some bytes) (Some (Read r)) = Some (record { records = r; length = length bytes })
contents_by bytes answer = None

abbrev pub part_of : Option (List ℕ) → Files → List ℕ → Option Contents
part_of base files name = contents_by (files name) (answer_of files base name)

abbrev pub parts_of : Option (List ℕ) → Files → List (List ℕ) → List Contents
parts_of base files names = filter_map (part_of base files) names

-- of several files: why the first that is not read is not; else why they are refused together; else what is said of them as one
abbrev pub joined_report : (Records → Option Report) → Option (List ℕ) → Files → List (List ℕ) → Option Report
joined_report said base files names =
    first_told (parts_fault base files 0 names)
    (first_told (option_map refusal_report (joined_past nothing (parts_of base files names)))
    (said (joined (parts_of base files names)).records))

-- of a file by its name: that it can't be read, or what is said of its bytes
abbrev pub bytes_report : List ℕ → (List ℕ → Option Report) → Option (List ℕ) → Option Report
bytes_report name said None = Some (read_fault_report name)
bytes_report name said (Some bytes) = said bytes

-- the records of a file by lines and columns
abbrev pub listing_lines : Listing → List ℕ → Records → Report
listing_lines listing.Lines bytes r = lines_report r bytes

abbrev pub listing_by : Listing → List ℕ → Answer → Report
listing_by l bytes (Refuse code at) = refusal_report (record { code = code; at = at })
listing_by l bytes (Read r) = listing_lines l bytes r

abbrev pub listing_said : Option (List ℕ) → List ℕ → Listing → List ℕ → Option Report
listing_said base name l bytes = Some (listing_by l bytes (file_answer (is_ntriples name) base bytes))

-- what is said of a certificate is not told here
abbrev pub task_report : Task → Files → Option Report
task_report (task.Report base file q) files = report_by file (records_report q) (answer_of files base file)
task_report (task.Verify base file cert) files = report_by file (λ r. None) (answer_of files base file)
task_report (task.Join base k names) files = joined_report (records_report (query_of k)) base files names
task_report (task.List base file l) files = bytes_report file (listing_said base file l) (files file)
task_report (task.Sample n) files = Some (sample_report n)
task_report (task.Help command) files = Some (help_report command)
task_report task.Version files = Some version_report

abbrev pub usage_report : Report
usage_report = record { status = Usage; text = codes "usage: crm_cli COMMAND [--base IRI] WORDS\n" }

abbrev pub asked_report : Option Task → Files → Option Report
asked_report None files = Some usage_report
asked_report (Some t) files = task_report t files

abbrev pub report : List (List ℕ) → Files → Option Report
report words files = asked_report (task_named words) files
