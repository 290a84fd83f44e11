-- A syntax by the machine that reads its tokens, and by which of what it reads are none.
use Rattle.std.specs.Prelude.{ℕ, Bool, List, Option}
use Rattle.text_patterns.specs.Patterns.{Pattern}
use Rattle.text_patterns.specs.Machines.{Machine}

-- `lines` says that a line's end is a token; `only`, that the text at whose front a token stands has no other one than of this kind
-- and pattern; `drops`, that what is read, of so many characters, is no token at the front of the text.
pub record Scanner (State Kind : Type 0) : Type 0 where
  pub machine : Machine State Kind
  pub lines : Bool
  pub only : List ℕ → Option (Kind × Pattern)
  pub drops : Kind → ℕ → List ℕ → Bool
