-- What is known of files while they are joined.
use Rattle.std.specs.Prelude.{◌≡◌, ⊤, ℕ, List, [], Option, Some, None, get_or, take}
use Rattle.std.specs.List.{All}
use Rattle.std.specs.List.Sorted.{IsPermutation}
use Rattle.rdf_terms.specs.declared.terms.Term.{Term}
use Rattle.rdf_terms.specs.declared.triples.Records.{Records}
use Rattle.rdf_reading.specs.Answers.Answer.{Read}
use Rattle.crm_outside.specs.Shelves.{Files}
use Rattle.report_base.specs.Reports.{Report}
use Rattle.record_reports.specs.RecordReports.{refusal_report}
use Rattle.crm_core.specs.Contents.{Contents}
use Rattle.archive_join.specs.Archives.{file_past, joined, joined_past, with_file, with_files}
use Rattle.archive_join.specs.Joining.{nothing}
use Rattle.join_laws.specs.Agreeing.{AgreeUpTo}
use Rattle.command_words.specs.declared.tasks.Task.{Task}
use Rattle.command_words.specs.declared.tasks.Task.TheVariants as task
use Rattle.crm_run.specs.declared.joining.Joining.{Joining}
use Rattle.crm_run.specs.declared.joining.Joining.TheVariants.{Joined, Refused}
use Rattle.crm_run.specs.Outcomes.{IsRead}
use Rattle.crm_run.specs.Report.{answer_of, part_of, parts_fault, parts_of}

abbrev pub name_at : List (List ℕ) → ℕ → List ℕ
name_at names k = get_or names k []

-- so many files are read
abbrev pub AreReadBefore : Option (List ℕ) → Files → List (List ℕ) → ℕ → Type 0
AreReadBefore base files names k = All (λ n. IsRead (answer_of files base n)) (take k names)

-- a file more behind those that are joined
abbrev pub IsJoinedWith : Joining → Contents → Joining → Type 0
IsJoinedWith (Joined j) a (Joined k) = (file_past j a ≡ None) × (k ≡ with_file j a)
IsJoinedWith (Joined j) a (Refused f) = file_past j a ≡ Some f
IsJoinedWith (Refused f) a (Joined k) = ⊥
IsJoinedWith (Refused f) a (Refused e) = e ≡ f

-- it is that of a name, which is read
pub record IsJoinedOf (base : Option (List ℕ)) (files : Files) (name : List ℕ) (old new : Joining) : Type 0 where
  pub part : Contents
  pub is : part_of base files name ≡ Some part
  pub read : answer_of files base name ≡ Some (Read part.records)
  pub joined : IsJoinedWith old part new

-- all files are read, and are one, or are refused together
abbrev pub AreJoined : Option (List ℕ) → Files → List (List ℕ) → Joining → Type 0
AreJoined base files names (Joined j) =
    (parts_fault base files 0 names ≡ None) × (joined_past nothing (parts_of base files names) ≡ None) × (j ≡ with_files nothing (parts_of base files names))
AreJoined base files names (Refused f) = (parts_fault base files 0 names ≡ None) × (joined_past nothing (parts_of base files names) ≡ Some f)

-- what is said of files that are read
abbrev pub joining_report : (Records → Option Report) → Joining → Option Report
joining_report said (Joined j) = said j.records
joining_report said (Refused f) = Some (refusal_report f)

-- The files that are read say the same with their names in any order: the same nodes, renamed, are faulty, extents and periods, consistent
-- together or not, and the same follows of them.
abbrev pub IsInAnyOrder : Option (List ℕ) → Files → List (List ℕ) → Type 0
IsInAnyOrder base files names = (others : List (List ℕ)) → IsPermutation names others →
    (m : Term → Term) × AgreeUpTo m (joined (parts_of base files names)).records (joined (parts_of base files others)).records

abbrev pub OrderIsFree : Files → Option Task → Type 0
OrderIsFree files (Some (task.Join base k names)) = IsInAnyOrder base files names
OrderIsFree files (Some (task.Report base file q)) = ⊤
OrderIsFree files (Some (task.Verify base file cert)) = ⊤
OrderIsFree files (Some (task.List base file l)) = ⊤
OrderIsFree files (Some (task.Sample n)) = ⊤
OrderIsFree files (Some (task.Help command)) = ⊤
OrderIsFree files (Some task.Version) = ⊤
OrderIsFree files None = ⊤
