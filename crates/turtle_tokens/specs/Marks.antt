-- The rule of three quote marks: they begin a long string or nothing.
use Rattle.std.specs.Prelude.{ℕ, List, ◌∷◌, Bool, false, cond, ◌&&◌, ◌||◌, ◌==◌, Option, None, Some, is_some}
use Rattle.text_patterns.specs.Patterns.{Pattern}
use Rattle.turtle_tokens.specs.Terminals.{long_string}
use Rattle.turtle_tokens.specs.declared.kinds.TokenKind.{TokenKind}
use Rattle.turtle_tokens.specs.declared.kinds.TokenKind.TheVariants.{Str}

abbrev pub is_quote : ℕ → Bool
is_quote c = c == 0x22 || c == 0x27

-- the quote mark of which three begin the text
abbrev pub three_marks : List ℕ → Option ℕ
three_marks (a ∷ b ∷ c ∷ rest) = cond (is_quote a && (b == a && c == a)) (Some a) None
three_marks _ = None

-- behind a mark of which three begin the text, only a long string in that mark
abbrev pub only_by : Option ℕ → Option (TokenKind × Pattern)
only_by None = None
only_by (Some mark) = Some (Str, long_string mark)

-- Three quote marks begin no empty string.
abbrev pub drops : TokenKind → ℕ → List ℕ → Bool
drops Str n text = is_some (three_marks text) && n == 2
drops _ n text = false
