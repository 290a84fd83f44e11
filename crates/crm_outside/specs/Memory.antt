-- The devices in memory.
use Rattle.std.specs.Prelude.{ℕ, ◌-◌, Bool, not, ◌&&◌, List, Option, drop, length, if◌then◌else◌, nat_eq, slice_get, position, is_some, Result, Ok, Err}
use Rattle.std.specs.Option.{option_and_then, option_map}
use Rattle.std.specs.List.{list_any}
use Rattle.std.specs.Str.{bytes_eq}
use Rattle.crm_outside.specs.Causes.{counted}
use Rattle.crm_outside.specs.declared.list.FileEntry.{FileEntry}
use Rattle.crm_outside.specs.declared.memory.Place.{Place}

-- the bytes of the first file with this name
abbrev pub find_file : List FileEntry → List ℕ → Option (List ℕ)
find_file files name = option_map (λ f. f.bytes) (option_and_then (slice_get files) (position (λ f. bytes_eq f.name name) files))

-- what is left at a place in one of the files
abbrev pub left_at : List FileEntry → Option Place → Option (List ℕ)
left_at files place = option_and_then (λ p. option_map (λ f. drop p.at f.bytes) (slice_get files p.file)) place

-- a shelf in memory: its files, which of its calls fail, how many calls there were, what is left of the open file, and how many calls failed
pub record ShelfState : Type 0 where
  pub files : List FileEntry
  pub fails : List ℕ
  pub calls : ℕ
  pub left : Option (List ℕ)
  pub faults : ℕ

-- the next call is one of those that fail
abbrev pub fails_next : List ℕ → ℕ → Bool
fails_next fails calls = list_any (nat_eq calls) fails

-- the next `open` succeeds: its number isn't listed, and the name is held
abbrev pub is_opening : ShelfState → List ℕ → Bool
is_opening s name = not (fails_next s.fails s.calls) && is_some (find_file s.files name)

-- the next `read` succeeds: its number isn't listed, and a file is open
abbrev pub is_reading : ShelfState → Bool
is_reading s = not (fails_next s.fails s.calls) && is_some s.left

-- the count of faults behind a call
abbrev pub faults_after : {T E : Type 0} → ℕ → Result T E → ℕ
faults_after faults (Ok x) = faults
faults_after faults (Err e) = counted faults

-- a sink in memory: what was written, how much it holds in all, how much a call takes, which calls fail, how many there were, and how many failed
pub record SinkState : Type 0 where
  pub written : List ℕ
  pub room : ℕ
  pub take : ℕ
  pub fails : List ℕ
  pub calls : ℕ
  pub faults : ℕ

-- how many bytes are free
abbrev pub free : SinkState → ℕ
free s = s.room - length s.written

-- the next write succeeds: its number isn't listed, and the piece is empty or room is free
abbrev pub is_taking : SinkState → List ℕ → Bool
is_taking s piece = not (fails_next s.fails s.calls) && not (nat_eq (free s) 0 && not (nat_eq (length piece) 0))

-- how many bytes are sure to be taken: those that are free, where no call fails
abbrev pub sure_bytes : SinkState → ℕ
sure_bytes s = if nat_eq (length s.fails) 0 then free s else 0
