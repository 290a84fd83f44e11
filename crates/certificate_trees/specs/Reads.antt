-- What is read between two places of a text.
use Rattle.std.specs.Prelude.{◌≡◌, ◌≤◌, ℕ, List, ◌++◌, length, drop}

-- the bytes between two places are the piece
pub record IsRead (text : List ℕ) (at to : ℕ) (piece : List ℕ) : Type 0 where
  pub spelled : drop at text ≡ piece ++ drop to text
  pub onward : at ≤ to
  pub within : to ≤ length text
