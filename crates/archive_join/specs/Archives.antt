-- Several files as one.
use Rattle.std.specs.Prelude.{List, [], ◌∷◌, Option, Some, None}
use Rattle.rdf_terms.specs.declared.terms.Refusal.{Refusal}
use Rattle.crm_core.specs.Contents.{Contents}
use Rattle.archive_join.specs.Limits.{first_past}
use Rattle.archive_join.specs.Joining.{Joined, nothing, triples_behind, with_records}

-- with one file more
abbrev pub with_file : Joined → Contents → Joined
with_file j a = with_records j a.records a.length

-- with several, in order
abbrev pub with_files : Joined → List Contents → Joined
with_files j [] = j
with_files j (a ∷ rest) = with_files (with_file j a) rest

-- what they hold as one
abbrev pub contents : Joined → Contents
contents j = record { records = j.records; length = j.length }

abbrev pub joined : List Contents → Contents
joined files = contents (with_files nothing files)

abbrev pub first_refusal : Option Refusal → Option Refusal → Option Refusal
first_refusal None later = later
first_refusal (Some f) later = Some f

-- why a file is refused behind those that are joined, if it is: the first of its triples with which a limit is passed
abbrev pub file_past : Joined → Contents → Option Refusal
file_past j a = first_past j.records (triples_behind j.blanks j.length a.records)

-- why several are refused together, if they are
abbrev pub joined_past : Joined → List Contents → Option Refusal
joined_past j [] = None
joined_past j (a ∷ rest) = first_refusal (file_past j a) (joined_past (with_file j a) rest)
