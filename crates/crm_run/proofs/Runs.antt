-- What is known of a run, by what was done in it.
use Rattle.std.proofs.Common.{◌≡◌, ◌<◌, ℕ, suc, List, [], ◌∷◌, ◌++◌, length, take, drop, drop-cons, sym, ap, subst, ◌∙◌, Option, Some, None, is_some, inl, inr, true, false, true≢false, refl}
use Rattle.std.proofs.lemmas.List.{take-append-drop}
use Rattle.std.specs.Prelude.{IfSome, IfOk, ◌⊎◌, Bool, Result, Ok, Err, ⊤}
use Rattle.crm_outside.specs.Causes.{Rose}
use Rattle.crm_outside.specs.Shelves.{Files, held}
use Rattle.rdf_terms.specs.declared.terms.Refusal.{Refusal}
use Rattle.rdf_terms.specs.declared.triples.Records.{Records}
use Rattle.rdf_reading.specs.Answers.{Answer}
use Rattle.report_base.specs.declared.status.Status.{Status}
use Rattle.report_base.specs.declared.status.Status.TheVariants.{Usage, ReadFault, WriteFault, Memory}
use Rattle.report_base.specs.declared.status.ReportFault.{ReportFault}
use Rattle.report_base.specs.declared.status.ReportFault.TheVariants as report
use Rattle.report_base.specs.Reports.{IsEnding, Report, Writes}
use Rattle.crm_core.specs.Files.{Answers, AnswersBytes, is_ntriples}
use Rattle.crm_core.specs.SampleReports.{sample_report}
use Rattle.crm_core.specs.declared.faults.ArchiveFault.{ArchiveFault}
use Rattle.crm_core.specs.declared.faults.ArchiveFault.TheVariants as archive
use Rattle.record_reports.specs.RecordReports.{refusal_report}
use Rattle.archive_join.specs.Refusals.{file_refusal_report}
use Rattle.command_help.specs.Help.{help_report, version_report}
use Rattle.command_words.specs.declared.commands.CommandName.{CommandName}
use Rattle.command_words.specs.declared.commands.JoinKind.{JoinKind}
use Rattle.command_words.specs.Tasks.{query_of}
use Rattle.command_words.specs.declared.tasks.Listing.{Listing}
use Rattle.command_words.specs.declared.tasks.Query.{Query}
use Rattle.command_words.specs.declared.tasks.Task.{Task}
use Rattle.command_words.specs.declared.tasks.Task.TheVariants as task
use Rattle.crm_run.specs.declared.joining.Joining.{Joining}
use Rattle.crm_run.specs.declared.joining.PartFault.{PartFault}
use Rattle.crm_run.specs.Joins.{AreJoined, AreReadBefore, joining_report, name_at}
use Rattle.crm_run.specs.Headline.{IsReport, IsSaid, IsTrueVerdict, JudgesTruly}
use Rattle.crm_run.specs.Outcomes.{Ends, Faulted, IsTold, IsToldBy, NamesNoPeriod, Outcome, ended}
use Rattle.crm_run.specs.Report.{answer_at, answer_of, asked_report, bytes_report, joined_report, listing_said, part_fault, read_fault_report, records_report, report_by, task_report, usage_report}
use Rattle.crm_run.specs.Runs.{Runs, RunsOn}
use Rattle.crm_run.proofs.Endings.{any_ends, any_told, failed, no_read_fault_end, no_usage_end, starved_end, told_ends, write_end, written_ends}
use Rattle.crm_run.proofs.Joins.{is_joined, not_joined}
use Rattle.crm_run.proofs.Tellings.{first_reached, told_honest, told_is_none, told_no_usage, told_or, told_read, told_write}
use Rattle.crm_run.proofs.Usages.{help_no_usage, is_ending, no_read_fault, sample_no_usage, usage_ended, version_no_usage, write_failed}
use Rattle.crm_run.proofs.Verdicts.{judged_truly, memory_is_none, not_judged}

either : (P Q : Files → Type 0) (o : Option Files) → IfSome o (λ files. P files) → IfSome o (λ files. P files ⊎ Q files)
either P Q None h = tt
either P Q (Some files) h = inl h

nothing_more : (o : Option Files) → IfSome o (λ files. ⊤)
nothing_more None = tt
nothing_more (Some files) = tt

module _ {S : Type 0} (written : S → Option (List ℕ)) (faults sure : S → ℕ) where
  -- memory was wanting before anything was printed
  module _ (a : S) (o : Option Files) (honest : Bool) (rose : Type 0) where
    starved_truly : (t : Option Task) (files : Files) → JudgesTruly written a a files t Memory
    starved_truly None files = tt
    starved_truly (Some (task.Verify base file cert)) files = λ r e is. absurd (memory_is_none is)
    starved_truly (Some other) files = tt

    starved_judges : (t : Option Task) (p : Option Files) → IfSome p (λ files. JudgesTruly written a a files t Memory)
    starved_judges t None = tt
    starved_judges t (Some files) = starved_truly t files

    pub starved_run : (t : Option Task) → Runs written faults sure a a o honest rose t Memory
    starved_run t =
        let told = any_told written faults sure a a Memory (starved_end written faults sure a) (asked_report t) o in
        record {
          report = either (λ files. Ends written faults sure a a (asked_report t files) Memory) (λ files. Faulted written faults sure a a rose files t Memory) o told;
          honest = λ is. told;
          verdict = starved_judges t o;
          usage = λ e. absurd (let never : ⊥ = cc in never);
          read = λ e. absurd (let never : ⊥ = cc in never);
          write = λ e. absurd (let never : ⊥ = cc in never);
        }

  module _ (a b : S) (o : Option Files) (honest : Bool) (rose : Type 0) where
    -- a report that needs no file
    all_told : (p : Report) (s : Status) → Outcome written faults sure a b p s → (x : Option Files) → IfSome x (λ files. Outcome written faults sure a b p s)
    all_told p s h None = tt
    all_told p s h (Some files) = h

    -- the words have no form
    pub usage_run : (s : Status) → Outcome written faults sure a b usage_report s → Runs written faults sure a b o honest rose None s
    usage_run s h = record {
      report = either (λ files. Outcome written faults sure a b usage_report s) (λ files. Faulted written faults sure a b rose files None s) o (all_told usage_report s h o);
      honest = λ is. all_told usage_report s h o;
      verdict = nothing_more o;
      usage = λ e. tt;
      read = λ e. absurd (no_read_fault_end written faults sure a b usage_report s (λ d. let never : ⊥ = cc in never) h e);
      write = λ e. write_end written faults sure a b usage_report s h e;
    }

    -- a task that needs none
    module _ (t : Task) (p : Report) (w : Result Status ReportFault) (told : (files : Files) → task_report t files ≡ Some p)
        (quiet : (files : Files) → JudgesTruly written a b files (Some t) (ended w)) (no_usage : p.status ≡ Usage → ⊥) (h : Writes written faults sure a b p w) where
      task_ends : Outcome written faults sure a b p (ended w)
      task_ends = written_ends written faults sure a b p w h

      task_told : (x : Option Files) → IfSome x (λ files. Ends written faults sure a b (task_report t files) (ended w))
      task_told None = tt
      task_told (Some files) = subst (λ (r : Option Report). Ends written faults sure a b r (ended w)) (sym (told files)) task_ends

      task_judged : (x : Option Files) → IfSome x (λ files. JudgesTruly written a b files (Some t) (ended w))
      task_judged None = tt
      task_judged (Some files) = quiet files

      task_run : Runs written faults sure a b o honest rose (Some t) (ended w)
      task_run = record {
        report = either (λ files. Ends written faults sure a b (task_report t files) (ended w)) (λ files. Faulted written faults sure a b rose files (Some t) (ended w)) o (task_told o);
        honest = λ is. task_told o;
        verdict = task_judged o;
        usage = λ e. absurd (no_usage_end written faults sure a b p (ended w) no_usage task_ends e);
        read = λ e. absurd (no_read_fault w (is_ending w p.status h.status) e);
        write = λ e. write_end written faults sure a b p (ended w) task_ends e;
      }

    pub sample_run : (n : ℕ) (w : Result Status ReportFault) → Writes written faults sure a b (sample_report n) w → Runs written faults sure a b o honest rose (Some (task.Sample n)) (ended w)
    sample_run n w h = task_run (task.Sample n) (sample_report n) w (λ files. refl) (λ files. tt) (sample_no_usage n) h

    pub help_run : (command : Option CommandName) (w : Result Status ReportFault) → Writes written faults sure a b (help_report command) w →
        Runs written faults sure a b o honest rose (Some (task.Help command)) (ended w)
    help_run command w h = task_run (task.Help command) (help_report command) w (λ files. refl) (λ files. tt) (help_no_usage command) h

    pub version_run : (w : Result Status ReportFault) → Writes written faults sure a b version_report w → Runs written faults sure a b o honest rose (Some task.Version) (ended w)
    version_run w h = task_run task.Version version_report w (λ files. refl) (λ files. tt) version_no_usage h

    -- a listing of a file
    module _ (base : Option (List ℕ)) (file : List ℕ) (l : Listing) (s : Status) where
      listed : (x : Option Files) →
          IfSome x (λ files. Ends written faults sure a b (bytes_report file (listing_said base file l) (files file)) s ⊎ (rose × Outcome written faults sure a b (read_fault_report file) s)) →
          IfSome x (λ files. Ends written faults sure a b (asked_report (Some (task.List base file l)) files) s ⊎ Faulted written faults sure a b rose files (Some (task.List base file l)) s)
      listed None part = tt
      listed (Some files) part = elim part [
        | inl ends ↦ inl ends
        | inr fault ↦ inr (fault.0, record { name = file; reached = first_reached files (task.List base file l) file [] refl; told = fault.1 })
      ]

      pub listing_run : RunsOn written faults sure a b o honest rose file (λ files. bytes_report file (listing_said base file l) (files file)) s →
          Runs written faults sure a b o honest rose (Some (task.List base file l)) s
      listing_run h = record { report = listed o h.report; honest = h.honest; verdict = nothing_more o; usage = λ e. absurd (h.usage e); read = h.read; write = h.write }

    -- several files as one
    module _ (base : Option (List ℕ)) (k : JoinKind) (names : List (List ℕ)) where
      abbrev said : Records → Option Report
      said = records_report (query_of k)

      abbrev joined_task : Task
      joined_task = task.Join base k names

      joined_ends : (x : Joining) (s : Status) → Ends written faults sure a b (joining_report said x) s → (p : Option Files) → IfSome p (λ files. AreJoined base files names x) →
          IfSome p (λ files. Ends written faults sure a b (joined_report said base files names) s)
      joined_ends x s ends None h = tt
      joined_ends x s ends (Some files) h = subst (λ (r : Option Report). Ends written faults sure a b r s) (sym (is_joined said base files names x h)) ends

      -- they are read
      pub join_run : (x : Joining) (w : Result Status ReportFault) → IfSome o (λ files. AreJoined base files names x) →
          IfSome (joining_report said x) (λ r. Writes written faults sure a b r w) → IfOk w IsEnding → IfOk w (λ t. t ≡ Usage → ⊥) →
          (w ≡ Err report.Failed → Rose (faults a) (faults b)) → Runs written faults sure a b o honest rose (Some joined_task) (ended w)
      join_run x w is h ending usage cause =
          let ends = joined_ends x (ended w) (told_ends written faults sure a b (joining_report said x) w h) o is in
          record {
            report = either (λ files. Ends written faults sure a b (joined_report said base files names) (ended w))
                (λ files. Faulted written faults sure a b rose files (Some joined_task) (ended w)) o ends;
            honest = λ honestly. ends;
            verdict = nothing_more o;
            usage = λ e. usage_ended ⊥ w usage e;
            read = λ e. absurd (no_read_fault w ending e);
            write = λ e. write_failed (Rose (faults a) (faults b)) w ending cause e;
          }

      -- one of them is not
      module _ (p : PartFault) (s : Status) (lt : p.number < length names) (later : p.fault ≡ archive.Failed → rose)
          (told : IsToldBy written faults sure a b (file_refusal_report p.number) (name_at names p.number) p.fault s) where
        abbrev name : List ℕ
        name = name_at names p.number

        abbrev EndsOf : Files → Type 0
        EndsOf files = Ends written faults sure a b (joined_report said base files names) s

        ends_as : (files : Files) (r : Report) → AreReadBefore base files names p.number → part_fault p.number name (answer_of files base name) ≡ Some r →
            Outcome written faults sure a b r s → EndsOf files
        ends_as files r read is h = subst (λ (x : Option Report). Ends written faults sure a b x s) (sym (not_joined said base files names p.number r lt read is)) h

        refused_as : (f : Refusal) (bytes : Option (List ℕ)) → AnswersBytes (is_ntriples name) base bytes (Err (archive.Refused f)) →
            part_fault p.number name (answer_at base name bytes) ≡ Some (file_refusal_report p.number f)
        refused_as f None is = absurd is
        refused_as f (Some bytes) is = ap (λ (x : Answer). part_fault p.number name (Some x)) is

        missing_as : (bytes : Option (List ℕ)) → is_some bytes ≡ false → part_fault p.number name (answer_at base name bytes) ≡ Some (read_fault_report name)
        missing_as None is = refl
        missing_as (Some bytes) is = absurd (true≢false is)

        part_or : (x : Option Files) (fault : ArchiveFault) → Answers x base name (Err fault) → IfSome x (λ files. AreReadBefore base files names p.number) →
            (fault ≡ archive.Failed → rose) → IsToldBy written faults sure a b (file_refusal_report p.number) name fault s →
            IfSome x (λ files. EndsOf files ⊎ Faulted written faults sure a b rose files (Some joined_task) s)
        part_or None fault is before failed h = tt
        part_or (Some files) (archive.Refused f) is before failed h = inl (ends_as files (file_refusal_report p.number f) before (refused_as f (files name) is) h)
        part_or (Some files) archive.Failed is before failed h = inr (
          failed refl,
          record {
            name = name;
            reached = record {
              before = take p.number names;
              after = drop (suc p.number) names;
              order = sym (take-append-drop p.number names) ∙ ap (λ (l : List (List ℕ)). take p.number names ++ l) (drop-cons names p.number [] lt);
              read = before;
            };
            told = h;
          },
        )
        part_or (Some files) archive.Memory is before failed h = inl (any_ends written faults sure a b s h.1 (joined_report said base files names))

        part_honest : (x : Option Files) (fault : ArchiveFault) → Answers x base name (Err fault) → IfSome x (λ files. AreReadBefore base files names p.number) →
            (fault ≡ archive.Failed → is_some (held x name) ≡ false) → IsToldBy written faults sure a b (file_refusal_report p.number) name fault s →
            IfSome x EndsOf
        part_honest None fault is before missing h = tt
        part_honest (Some files) (archive.Refused f) is before missing h = ends_as files (file_refusal_report p.number f) before (refused_as f (files name) is) h
        part_honest (Some files) archive.Failed is before missing h = ends_as files (read_fault_report name) before (missing_as (files name) (missing refl)) h
        part_honest (Some files) archive.Memory is before missing h = any_ends written faults sure a b s h.1 (joined_report said base files names)

        pub join_not_read : Answers o base name (Err p.fault) → IfSome o (λ files. AreReadBefore base files names p.number) →
            (honest ≡ true → p.fault ≡ archive.Failed → is_some (held o name) ≡ false) → Runs written faults sure a b o honest rose (Some joined_task) s
        join_not_read is before missing = record {
          report = part_or o p.fault is before later told;
          honest = λ honestly. part_honest o p.fault is before (missing honestly) told;
          verdict = nothing_more o;
          usage = λ e. absurd (told_no_usage written faults sure a b name s (file_refusal_report p.number) (λ f. refl) p.fault told e);
          read = λ e. told_read written faults sure a b name s (file_refusal_report p.number) (λ f. refl) rose p.fault later told e;
          write = λ e. told_write written faults sure a b name s (file_refusal_report p.number) (λ f. refl) p.fault told e;
        }

    -- the file is not read
    module _ (base : Option (List ℕ)) (file : List ℕ) (fault : ArchiveFault) (s : Status) (is : Answers o base file (Err fault)) (later : fault ≡ archive.Failed → rose)
        (missing : honest ≡ true → fault ≡ archive.Failed → is_some (held o file) ≡ false) (told : IsTold written faults sure a b file fault s) where
      pub report_not_read : (q : Query) → Runs written faults sure a b o honest rose (Some (task.Report base file q)) s
      report_not_read q = record {
        report = told_or written faults sure a b file s (records_report q) base (task.Report base file q) [] refl rose o fault is later told;
        honest = λ h. told_honest written faults sure a b file s (records_report q) base o fault is (missing h) told;
        verdict = nothing_more o;
        usage = λ e. absurd (told_no_usage written faults sure a b file s refusal_report (λ f. refl) fault told e);
        read = λ e. told_read written faults sure a b file s refusal_report (λ f. refl) rose fault later told e;
        write = λ e. told_write written faults sure a b file s refusal_report (λ f. refl) fault told e;
      }

      pub verify_not_read : (cert : List ℕ) → Runs written faults sure a b o honest rose (Some (task.Verify base file cert)) s
      verify_not_read cert = record {
        report = told_or written faults sure a b file s (λ r. None) base (task.Verify base file cert) (cert ∷ []) refl rose o fault is later told;
        honest = λ h. told_honest written faults sure a b file s (λ r. None) base o fault is (missing h) told;
        verdict = not_judged written faults sure a b base file cert s o (told_is_none written faults sure a b file s fault told);
        usage = λ e. absurd (told_no_usage written faults sure a b file s refusal_report (λ f. refl) fault told e);
        read = λ e. told_read written faults sure a b file s refusal_report (λ f. refl) rose fault later told e;
        write = λ e. told_write written faults sure a b file s refusal_report (λ f. refl) fault told e;
      }

    -- the file is read to these records
    module _ (base : Option (List ℕ)) (file : List ℕ) (r : Records) (is : Answers o base file (Ok r)) where
      module _ (said : Records → Option Report) (s : Status) (ends : Ends written faults sure a b (said r) s) where
        by_bytes : (x : Option (List ℕ)) → AnswersBytes (is_ntriples file) base x (Ok r) → Ends written faults sure a b (report_by file said (answer_at base file x)) s
        by_bytes None told = absurd told
        by_bytes (Some bytes) told = subst (λ (y : Answer). Ends written faults sure a b (report_by file said (Some y)) s) (sym told) ends

        by_file : (x : Option Files) → Answers x base file (Ok r) → IfSome x (λ files. Ends written faults sure a b (report_by file said (answer_of files base file)) s)
        by_file None told = tt
        by_file (Some files) told = by_bytes (files file) told

      pub report_run : (q : Query) (w : Result Status ReportFault) → IfSome (records_report q r) (λ p. Writes written faults sure a b p w) → IfOk w IsEnding →
          IfOk w (λ t. t ≡ Usage → NamesNoPeriod q r) → (w ≡ Err report.Failed → Rose (faults a) (faults b)) →
          Runs written faults sure a b o honest rose (Some (task.Report base file q)) (ended w)
      report_run q w h ending usage cause =
          let ends = by_file (records_report q) (ended w) (told_ends written faults sure a b (records_report q r) w h) o is in
          record {
            report = either (λ files. Ends written faults sure a b (asked_report (Some (task.Report base file q)) files) (ended w))
                (λ files. Faulted written faults sure a b rose files (Some (task.Report base file q)) (ended w)) o ends;
            honest = λ honestly. ends;
            verdict = nothing_more o;
            usage = λ e. record { records = r; read = is; unnamed = usage_ended (NamesNoPeriod q r) w usage e };
            read = λ e. absurd (no_read_fault w ending e);
            write = λ e. write_failed (Rose (faults a) (faults b)) w ending cause e;
          }

      pub verify_run : (cert : List ℕ) (s : Status) → (s ≡ Usage → ⊥) → (s ≡ ReadFault → rose) → (s ≡ WriteFault → Rose (faults a) (faults b)) →
          IfSome o (λ files. IsReport s → IfSome (files cert) (λ bytes. IsSaid written a b (IsTrueVerdict r bytes))) →
          Runs written faults sure a b o honest rose (Some (task.Verify base file cert)) s
      verify_run cert s usage read write verdict =
          let ends = by_file (λ x. None) s tt o is in
          record {
            report = either (λ files. Ends written faults sure a b (asked_report (Some (task.Verify base file cert)) files) s)
                (λ files. Faulted written faults sure a b rose files (Some (task.Verify base file cert)) s) o ends;
            honest = λ honestly. ends;
            verdict = judged_truly written faults sure a b base file cert r s o is verdict;
            usage = λ e. absurd (usage e);
            read = read;
            write = write;
          }
