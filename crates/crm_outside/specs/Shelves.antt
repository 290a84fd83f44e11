-- What the calls of a shelf and of a sink do to the bytes that they tell.
use Rattle.std.specs.Prelude.{◌≡◌, ℕ, ◌<◌, ◌≤◌, true, List, length, drop, Result, Option, Some, None, ⊤, IfOk, is_some}
use Rattle.std.specs.Option.{option_map}

-- the bytes of each name that is held
abbrev pub Files : Type 0
Files = List ℕ → Option (List ℕ)

-- the bytes of a file, where the files are told and the name is held
abbrev pub held : Option Files → List ℕ → Option (List ℕ)
held None name = None
held (Some files) name = files name

-- the file is open at its beginning, where the files are told
abbrev pub IsOpened : Option Files → List ℕ → Option (List ℕ) → Type 0
IsOpened None name left = ⊤
IsOpened (Some files) name left = (is_some (files name) ≡ true) × (left ≡ files name)

-- of a piece that isn't empty at least one byte is taken
abbrev pub TakesSome : {E : Type 0} → Result ℕ E → List ℕ → Type 0
TakesSome r piece = IfOk r (λ n. (n ≤ length piece) × (0 < length piece → 0 < n))

-- the file has these bytes, where the files are told
abbrev pub Gives : Option Files → List ℕ → List ℕ → Type 0
Gives None name bytes = ⊤
Gives (Some files) name bytes = files name ≡ Some bytes

-- the file is longer than the limit, where the files are told
abbrev pub IsTooLong : Option Files → List ℕ → ℕ → Type 0
IsTooLong None name limit = ⊤
IsTooLong (Some files) name limit = (bytes : List ℕ) × (files name ≡ Some bytes) × (limit < length bytes)

-- the first n bytes of the file are taken and the others are left, where the files are told
abbrev pub IsTakenTo : Option Files → List ℕ → ℕ → Option (List ℕ) → Type 0
IsTakenTo None name n left = ⊤
IsTakenTo (Some files) name n left = left ≡ option_map (drop n) (files name)
