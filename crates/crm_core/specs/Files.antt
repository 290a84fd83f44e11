-- What a file says, and how it is taken from a shelf.
use Rattle.std.specs.Prelude.{◌≡◌, ◌≤◌, ℕ, Bool, true, false, List, ◌++◌, length, codes, nat_lt, nat_eq, if◌then◌else◌, Option, Some, None, Result, Ok, Err, IfOk, ⊤, ◌⊎◌}
use Rattle.std.specs.List.{ends_with}
use Rattle.std.specs.Io.KnownBytes.{Consumes, IsAtEnd}
use Rattle.crm_outside.specs.Shelves.{Files, IsTakenTo}
use Rattle.rdf_terms.specs.declared.terms.Code.TheVariants.{L1}
use Rattle.rdf_terms.specs.declared.terms.Refusal.{Refusal}
use Rattle.rdf_terms.specs.declared.triples.Records.{Records}
use Rattle.rdf_reading.specs.Answers.{Answer}
use Rattle.rdf_reading.specs.Answers.Answer.{Refuse, Read}
use Rattle.ntriples_reader.specs.Feeding as ntriples
use Rattle.turtle_reader.specs.Answers as turtle
use Rattle.rdf_reading.specs.declared.refusals.ReadRefusal.{ReadRefusal}
use Rattle.rdf_reading.specs.declared.refusals.ReadRefusal.TheVariants as reading
use Rattle.crm_core.specs.Contents.{Contents}
use Rattle.crm_core.specs.declared.faults.ArchiveFault.{ArchiveFault}
use Rattle.crm_core.specs.declared.faults.ArchiveFault.TheVariants.{Failed, Refused, Memory}

-- A name that ends with `.nt` is that of N-Triples; every other is that of Turtle.
abbrev pub is_ntriples : List ℕ → Bool
is_ntriples name = ends_with nat_eq name (codes ".nt")

-- the answer to N-Triples, or to Turtle with its base
abbrev pub text_answer : Bool → Option (List ℕ) → List ℕ → Answer
text_answer true base bytes = ntriples.answer bytes
text_answer false base bytes = turtle.answer base bytes

-- That a file is too long counts before all else.
unfoldable pub file_answer : Bool → Option (List ℕ) → List ℕ → Answer
file_answer is_ntriples base bytes = if nat_lt 67108864 (length bytes) then Refuse L1 67108864 else text_answer is_ntriples base bytes

-- The records are those of the answer, and so is the refusal.
abbrev pub IsAnswer : Result Records ArchiveFault → Answer → Type 0
IsAnswer (Ok r) a = a ≡ Read r
IsAnswer (Err (Refused f)) a = a ≡ Refuse f.code f.at
IsAnswer (Err Failed) a = ⊤
IsAnswer (Err Memory) a = ⊤

-- what a reader says, as what is said of a file
abbrev pub archived : Result Records ReadRefusal → Result Records ArchiveFault
archived (Ok r) = Ok r
archived (Err (reading.Refused f)) = Err (Refused f)
archived (Err reading.Memory) = Err Memory

-- the records of an archive that was read
abbrev pub records_of : Result Contents ArchiveFault → Result Records ArchiveFault
records_of (Ok a) = Ok a.records
records_of (Err f) = Err f

-- The length of an archive that was read is that of the bytes, where these are known.
abbrev pub HasLength : Option (List ℕ) → Result Contents ArchiveFault → Type 0
HasLength None r = ⊤
HasLength (Some bytes) r = IfOk r (λ a. a.length ≡ length bytes)

-- of a shelf that tells its files
abbrev pub HasLengthOf : Option Files → List ℕ → Result Contents ArchiveFault → Type 0
HasLengthOf None name r = ⊤
HasLengthOf (Some files) name r = HasLength (files name) r

-- of a name that is held, with its bytes; no other is read or refused
abbrev pub AnswersBytes : Bool → Option (List ℕ) → Option (List ℕ) → Result Records ArchiveFault → Type 0
AnswersBytes is_ntriples base (Some bytes) r = IsAnswer r (file_answer is_ntriples base bytes)
AnswersBytes is_ntriples base None (Ok r) = ⊥
AnswersBytes is_ntriples base None (Err (Refused f)) = ⊥
AnswersBytes is_ntriples base None (Err Failed) = ⊤
AnswersBytes is_ntriples base None (Err Memory) = ⊤

-- of a shelf that tells its files
abbrev pub Answers : Option Files → Option (List ℕ) → List ℕ → Result Records ArchiveFault → Type 0
Answers None base name r = ⊤
Answers (Some files) base name r = AnswersBytes (is_ntriples name) base (files name) r

-- n bytes were taken from the shelf and fed to the reader
pub record IsFed (start left : Option (List ℕ)) (before now : List ℕ → Answer) (n : ℕ) : Type 0 where
  pub bytes : List ℕ
  pub count : length bytes ≡ n
  pub taken : Consumes start left bytes
  pub fed : (more : List ℕ) → now more ≡ before (bytes ++ more)

-- and nothing is left
pub record IsFedWhole (start left : Option (List ℕ)) (before now : List ℕ → Answer) (count : ℕ) : Type 0 where
  pub short : count ≤ 67108864
  pub end : IsAtEnd left
  pub fed : IsFed start left before now count

-- one byte past the limit was taken, and more may be left
pub record IsLong (start left : Option (List ℕ)) (f : Refusal) : Type 0 where
  pub code : f.code ≡ L1
  pub at : f.at ≡ 67108864
  pub bytes : List ℕ
  pub count : length bytes ≡ 67108865
  pub taken : Consumes start left bytes

abbrev pub IsTakenLong : Option (List ℕ) → Option (List ℕ) → ArchiveFault → Type 0
IsTakenLong start left (Refused f) = IsLong start left f
IsTakenLong start left Failed = ⊤
IsTakenLong start left Memory = ⊤

-- one byte past the limit was taken of what was left
pub record IsPast (start left : Option (List ℕ)) : Type 0 where
  pub bytes : List ℕ
  pub count : length bytes ≡ 67108865
  pub taken : Consumes start left bytes

-- The open file was read to its end, or one byte past the limit of length; nothing is told where a call failed or memory was wanting.
abbrev pub IsOut : Option (List ℕ) → Option (List ℕ) → Result Records ArchiveFault → Type 0
IsOut start left (Ok r) = IsAtEnd left
IsOut start left (Err (Refused f)) = IsAtEnd left ⊎ IsPast start left
IsOut start left (Err Failed) = ⊤
IsOut start left (Err Memory) = ⊤

-- so it is with the file of a name
abbrev pub IsReadOut : Option Files → List ℕ → Option (List ℕ) → Result Records ArchiveFault → Type 0
IsReadOut files name left (Ok r) = IsAtEnd left
IsReadOut files name left (Err (Refused f)) = IsAtEnd left ⊎ IsTakenTo files name 67108865 left
IsReadOut files name left (Err Failed) = ⊤
IsReadOut files name left (Err Memory) = ⊤
