-- What a call that prints a text does to its sink, whose state tells the bytes written, the count of faults and the bytes that are sure to be taken.
use Rattle.std.specs.Prelude.{◌≡◌, ℕ, ◌+◌, ◌<◌, ◌≤◌, List, [], ◌∷◌, ◌++◌, length, take, Option, Result, OnOk, IfErr}
use Rattle.std.specs.Io.KnownBytes.{Appends}
use Rattle.crm_outside.specs.Causes.{Rose}
use Rattle.crm_outside.specs.declared.printing.PrintFault.{PrintFault}
use Rattle.crm_outside.specs.declared.printing.PrintFault.TheVariants.{Failed}

module _ {S : Type 0} (written : S → Option (List ℕ)) (faults sure : S → ℕ) (old new : S) where
  -- a front of a text is appended
  abbrev pub AppendsFront : List ℕ → Type 0
  AppendsFront text = (n : ℕ) × Appends (written old) (written new) (take n text)

  -- The text is appended whole. What the sink is sure of falls by at most its length.
  pub record Printed (text : List ℕ) : Type 0 where
    pub whole : Appends (written old) (written new) text
    pub later : faults old ≤ faults new
    pub spent : sure old ≤ sure new + length text

  -- A front of the text is appended. A failure comes only where the count rose, and never where the sink is sure of the text.
  pub record Broken (text : List ℕ) (fault : PrintFault) : Type 0 where
    pub front : AppendsFront text
    pub later : faults old ≤ faults new
    pub cause : fault ≡ Failed → Rose (faults old) (faults new)
    pub never : fault ≡ Failed → sure old < length text
    pub spent : sure old ≤ sure new + length text

  -- the text is printed whole, or breaks off with a fault
  pub record Prints {T : Type 0} (text : List ℕ) (result : Result T PrintFault) : Type 0 where
    pub ok : OnOk result (Printed text)
    pub err : IfErr result (Broken text)

-- a text for each item with its number, from a number on
unfoldable pub lines_from : {X : Type 0} → (ℕ → X → List ℕ) → ℕ → List X → List ℕ
lines_from line k [] = []
lines_from line k (x ∷ xs) = line k x ++ lines_from line (k + 1) xs
