-- Where a file is not read, it is said why.
use Rattle.std.proofs.Common.{◌≡◌, ℕ, List, [], ◌∷◌, sym, subst, ◌∙◌, Option, Some, None, is_some, inl, inr, true≢false, false, refl}
use Rattle.std.specs.Prelude.{IfSome, ◌⊎◌, Err}
use Rattle.std.proofs.lemmas.List.Elements.{All-nil}
use Rattle.crm_outside.specs.Causes.{Rose}
use Rattle.crm_outside.specs.Shelves.{Files, held}
use Rattle.report_base.specs.declared.status.Status.{Status}
use Rattle.report_base.specs.declared.status.Status.TheVariants.{Refused, Usage, ReadFault, WriteFault, Memory}
use Rattle.report_base.specs.Reports.{Report}
use Rattle.rdf_terms.specs.declared.triples.Records.{Records}
use Rattle.rdf_terms.specs.declared.terms.Refusal.{Refusal}
use Rattle.rdf_reading.specs.Answers.{Answer}
use Rattle.crm_core.specs.Files.{Answers, AnswersBytes, is_ntriples}
use Rattle.crm_core.specs.declared.faults.ArchiveFault.{ArchiveFault}
use Rattle.crm_core.specs.declared.faults.ArchiveFault.TheVariants as archive
use Rattle.record_reports.specs.RecordReports.{refusal_report}
use Rattle.command_words.specs.declared.tasks.Task.{Task}
use Rattle.crm_run.specs.Headline.{IsReport}
use Rattle.crm_run.specs.Outcomes.{Outcome, Ends, Faulted, IsReached, IsRead, IsTold, IsToldBy, base_of, files_of}
use Rattle.crm_run.specs.Report.{answer_at, answer_of, report_by, read_fault_report}
use Rattle.crm_run.proofs.Endings.{any_ends, no_read_fault_end, no_usage_end, write_end}
use Rattle.crm_run.proofs.Verdicts.{other, memory_is_none, read_fault_is_none, refused_is_none}

-- the first file of a task
pub first_reached : (files : Files) (task : Task) (name : List ℕ) (more : List (List ℕ)) → files_of task ≡ name ∷ more → IsReached files task name
first_reached files task name more e = record {
  before = [];
  after = more;
  order = e;
  read = All-nil (λ (n : List ℕ). IsRead (answer_of files (base_of task) n));
}

module _ {S : Type 0} (written : S → Option (List ℕ)) (faults sure : S → ℕ) (a b : S) (name : List ℕ) (status : Status) where
  module _ (said : Records → Option Report) (base : Option (List ℕ)) where
    -- the report on a file with this answer
    abbrev pub EndsBy : Option Answer → Type 0
    EndsBy x = Ends written faults sure a b (report_by name said x) status

    refused_bytes : (f : Refusal) (o : Option (List ℕ)) → AnswersBytes (is_ntriples name) base o (Err (archive.Refused f)) → Outcome written faults sure a b (refusal_report f) status
        → EndsBy (answer_at base name o)
    refused_bytes f None is h = absurd is
    refused_bytes f (Some bytes) is h = subst (λ (x : Answer). EndsBy (Some x)) (sym is) h

    missing_bytes : (o : Option (List ℕ)) → is_some o ≡ false → Outcome written faults sure a b (read_fault_report name) status → EndsBy (answer_at base name o)
    missing_bytes None is h = h
    missing_bytes (Some bytes) is h = absurd (true≢false is)

    -- the report says so; or, where a call on the shelf failed, the line of a read fault
    pub told_or : (task : Task) (more : List (List ℕ)) → files_of task ≡ name ∷ more → (rose : Type 0) (o : Option Files) (fault : ArchiveFault) → Answers o base name (Err fault) →
        (fault ≡ archive.Failed → rose) → IsTold written faults sure a b name fault status →
        IfSome o (λ files. EndsBy (answer_of files base name) ⊎ Faulted written faults sure a b rose files (Some task) status)
    told_or task more e rose None fault is failed h = tt
    told_or task more e rose (Some files) (archive.Refused f) is failed h = inl (refused_bytes f (files name) is h)
    told_or task more e rose (Some files) archive.Failed is failed h = inr (failed refl, record { name = name; reached = first_reached files task name more e; told = h })
    told_or task more e rose (Some files) archive.Memory is failed h = inl (any_ends written faults sure a b status h.1 (report_by name said (answer_of files base name)))

    -- an honest shelf fails where the file isn't held
    pub told_honest : (o : Option Files) (fault : ArchiveFault) → Answers o base name (Err fault) →
        (fault ≡ archive.Failed → is_some (held o name) ≡ false) → IsTold written faults sure a b name fault status →
        IfSome o (λ files. EndsBy (answer_of files base name))
    told_honest None fault is missing h = tt
    told_honest (Some files) (archive.Refused f) is missing h = refused_bytes f (files name) is h
    told_honest (Some files) archive.Failed is missing h = missing_bytes (files name) (missing refl) h
    told_honest (Some files) archive.Memory is missing h = any_ends written faults sure a b status h.1 (report_by name said (answer_of files base name))

  -- whatever is printed of a refusal
  module _ (refused : Refusal → Report) (own : (f : Refusal) → (refused f).status ≡ Refused) where
    not_own : (f : Refusal) (s : Status) → (Refused ≡ s → ⊥) → (refused f).status ≡ s → ⊥
    not_own f s other e = other (sym (own f) ∙ e)

    pub told_no_usage : (fault : ArchiveFault) → IsToldBy written faults sure a b refused name fault status → status ≡ Usage → ⊥
    told_no_usage (archive.Refused f) h e = no_usage_end written faults sure a b (refused f) status (not_own f Usage (λ d. let never : ⊥ = cc in never)) h e
    told_no_usage archive.Failed h e = no_usage_end written faults sure a b (read_fault_report name) status (λ d. let never : ⊥ = cc in never) h e
    told_no_usage archive.Memory h e = let same : Memory ≡ Usage = sym h.0 ∙ e in let never : ⊥ = cc in never

    pub told_read : (rose : Type 0) (fault : ArchiveFault) → (fault ≡ archive.Failed → rose) → IsToldBy written faults sure a b refused name fault status → status ≡ ReadFault → rose
    told_read rose (archive.Refused f) failed h e =
        absurd (no_read_fault_end written faults sure a b (refused f) status (not_own f ReadFault (λ d. let never : ⊥ = cc in never)) h e)
    told_read rose archive.Failed failed h e = failed refl
    told_read rose archive.Memory failed h e = absurd (let same : Memory ≡ ReadFault = sym h.0 ∙ e in let never : ⊥ = cc in never)

    pub told_write : (fault : ArchiveFault) → IsToldBy written faults sure a b refused name fault status → status ≡ WriteFault → Rose (faults a) (faults b)
    told_write (archive.Refused f) h e = write_end written faults sure a b (refused f) status h e
    told_write archive.Failed h e = write_end written faults sure a b (read_fault_report name) status h e
    told_write archive.Memory h e = absurd (let same : Memory ≡ WriteFault = sym h.0 ∙ e in let never : ⊥ = cc in never)

  -- and then there is no report
  pub told_is_none : (fault : ArchiveFault) → IsTold written faults sure a b name fault status → IsReport status → ⊥
  told_is_none (archive.Refused f) h is = refused_is_none (other written faults sure a b (refusal_report f) status is h)
  told_is_none archive.Failed h is = read_fault_is_none (other written faults sure a b (read_fault_report name) status is h)
  told_is_none archive.Memory h is = memory_is_none (subst (λ (x : Status). IsReport x) h.0 is)
