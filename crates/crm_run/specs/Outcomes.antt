-- What a run does to its sink, and how it ends.
use Rattle.std.specs.Prelude.{◌≡◌, ◌⊎◌, ℕ, List, [], ◌∷◌, ◌++◌, Option, Some, None, Result, Ok, Err, IfSome, ⊤}
use Rattle.std.specs.List.{All}
use Rattle.crm_outside.specs.Printing.{Printed, Broken}
use Rattle.crm_outside.specs.declared.printing.PrintFault.TheVariants.{Failed, Memory as NoMemory}
use Rattle.report_base.specs.declared.status.Status.{Status}
use Rattle.report_base.specs.declared.status.Status.TheVariants.{Done, Findings, Refused, Usage, ReadFault, WriteFault, Memory}
use Rattle.report_base.specs.declared.status.ReportFault.{ReportFault}
use Rattle.report_base.specs.declared.status.ReportFault.TheVariants as report
use Rattle.rdf_terms.specs.declared.terms.Refusal.{Refusal}
use Rattle.rdf_terms.specs.declared.triples.Records.{Records}
use Rattle.crm_legacy.specs.Modern.{modern_of}
use Rattle.period_names.specs.Naming as naming
use Rattle.rdf_reading.specs.Answers.{Answer}
use Rattle.rdf_reading.specs.Answers.Answer.{Read}
use Rattle.boundary_orders.specs.Dossiers.{AreFew}
use Rattle.crm_outside.specs.Shelves.{Files}
use Rattle.inference_reports.specs.Explained.{period_named}
use Rattle.crm_core.specs.Files.{Answers}
use Rattle.crm_core.specs.declared.faults.ArchiveFault.{ArchiveFault}
use Rattle.crm_core.specs.declared.faults.ArchiveFault.TheVariants as archive
use Rattle.record_reports.specs.RecordReports.{refusal_report}
use Rattle.report_base.specs.Reports.{Report, findings_from}
use Rattle.command_words.specs.declared.tasks.Query.{Query}
use Rattle.command_words.specs.declared.tasks.Query.TheVariants as query
use Rattle.command_words.specs.declared.tasks.Task.{Task}
use Rattle.command_words.specs.declared.tasks.Task.TheVariants as task
use Rattle.crm_run.specs.Report.{answer_of, read_fault_report}

-- the status of a report that was written, or broke off
abbrev pub ended : Result Status ReportFault → Status
ended (Ok status) = status
ended (Err report.Failed) = WriteFault
ended (Err report.Memory) = Memory

-- over these records, which are within the limits, A or B names no period
abbrev pub AreUnnamed : List ℕ → List ℕ → Records → Type 0
AreUnnamed a b r =
    AreFew (findings_from r)
    × ((period_named r.names (findings_from r).extents a ≡ None) ⊎ (period_named r.names (findings_from r).extents b ≡ None))

-- so it is with records in today's properties, where they are no refusal
abbrev pub AreUnnamedIn : List ℕ → List ℕ → Result Records Refusal → Type 0
AreUnnamedIn a b (Ok m) =
    AreFew (findings_from m)
    × ((naming.period_named m.names (findings_from m).extents a ≡ None) ⊎ (naming.period_named m.names (findings_from m).extents b ≡ None))
AreUnnamedIn a b (Err f) = ⊥

-- in `explain` and in `allen`
abbrev pub NamesNoPeriod : Query → Records → Type 0
NamesNoPeriod (query.Explain a code b) r = AreUnnamed a b r
NamesNoPeriod (query.AllenPair a b) r = AreUnnamedIn a b (modern_of r)
NamesNoPeriod other r = ⊥

-- the file is read to such records
pub record AsksInVain (files : Option Files) (base : Option (List ℕ)) (file : List ℕ) (q : Query) : Type 0 where
  pub records : Records
  pub read : Answers files base file (Ok records)
  pub unnamed : NamesNoPeriod q records

-- the words have no form, or they ask in vain
abbrev pub IsUsage : Option Files → Option Task → Type 0
IsUsage files None = ⊤
IsUsage files (Some (task.Report base file q)) = AsksInVain files base file q
IsUsage files (Some other) = ⊥

-- the files that a task reads, in this order
abbrev pub files_of : Task → List (List ℕ)
files_of (task.Report base file q) = file ∷ []
files_of (task.Verify base file cert) = file ∷ cert ∷ []
files_of (task.Join base report files) = files
files_of (task.List base file l) = file ∷ []
files_of (task.Sample n) = []
files_of (task.Help command) = []
files_of task.Version = []

abbrev pub base_of : Task → Option (List ℕ)
base_of (task.Report base file q) = base
base_of (task.Verify base file cert) = base
base_of (task.Join base report files) = base
base_of (task.List base file l) = base
base_of (task.Sample n) = None
base_of (task.Help command) = None
base_of task.Version = None

abbrev pub IsRead : Option Answer → Type 0
IsRead (Some (Read r)) = ⊤
IsRead other = ⊥

-- a file that a task reads, where each before it was read
pub record IsReached (files : Files) (t : Task) (name : List ℕ) : Type 0 where
  pub before : List (List ℕ)
  pub after : List (List ℕ)
  pub order : files_of t ≡ before ++ (name ∷ after)
  pub read : All (λ n. IsRead (answer_of files (base_of t) n)) before

module _ {S : Type 0} (written : S → Option (List ℕ)) (faults sure : S → ℕ) (old new : S) where
  -- the whole text at its own status, and a front of it where the sink failed or memory was wanting
  abbrev pub Outcome : Report → Status → Type 0
  Outcome r Done = (r.status ≡ Done) × Printed written faults sure old new r.text
  Outcome r Findings = (r.status ≡ Findings) × Printed written faults sure old new r.text
  Outcome r Refused = (r.status ≡ Refused) × Printed written faults sure old new r.text
  Outcome r Usage = (r.status ≡ Usage) × Printed written faults sure old new r.text
  Outcome r ReadFault = (r.status ≡ ReadFault) × Printed written faults sure old new r.text
  Outcome r WriteFault = Broken written faults sure old new r.text Failed
  Outcome r Memory = Broken written faults sure old new r.text NoMemory

  -- so it is with the report, where it is told
  abbrev pub Ends : Option Report → Status → Type 0
  Ends o status = IfSome o (λ r. Outcome r status)

  -- the whole text with its own status, or want of memory
  abbrev pub IsComplete : Report → Status → Type 0
  IsComplete r status = (status ≡ Memory) ⊎ ((status ≡ r.status) × Printed written faults sure old new r.text)

  -- the line of a read fault, with a file that the task reached
  pub record IsFaulted (files : Files) (t : Task) (status : Status) : Type 0 where
    pub name : List ℕ
    pub reached : IsReached files t name
    pub told : Outcome (read_fault_report name) status

  -- so it is where the shelf's count rose
  abbrev pub Faulted : Type 0 → Files → Option Task → Status → Type 0
  Faulted rose files None status = ⊥
  Faulted rose files (Some t) status = rose × IsFaulted files t status

  -- why a file was not read, by what is printed of its refusal; where memory was wanting nothing is printed, which is a front of every text
  abbrev pub IsToldBy : (Refusal → Report) → List ℕ → ArchiveFault → Status → Type 0
  IsToldBy refused name (archive.Refused f) status = Outcome (refused f) status
  IsToldBy refused name archive.Failed status = Outcome (read_fault_report name) status
  IsToldBy refused name archive.Memory status = (status ≡ Memory) × ((r : Report) → Outcome r status)

  abbrev pub IsTold : List ℕ → ArchiveFault → Status → Type 0
  IsTold = IsToldBy refusal_report
