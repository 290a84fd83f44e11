-- The tokens of a document, as far as its grammar and its meaning look at them.
use Rattle.std.specs.Prelude.{ℕ, List}
use Rattle.turtle_grammar.specs.declared.terminals.NameForm.{NameForm}
use Rattle.turtle_grammar.specs.declared.terminals.AtWord.{AtWord}
use Rattle.turtle_grammar.specs.declared.terminals.Terminal.{Terminal}
use Rattle.turtle_grammar.specs.declared.terminals.Terminal.TheVariants as terminal

-- the value of a token, the length of its prefix, and its byte offset
pub record Value : Type 0 where
  pub text : List ℕ
  pub cut : ℕ
  pub at : ℕ

pub data Token : Type 0 where
  Name : NameForm → Value → Token
  A : Token
  Blank : Value → Token
  Literal : List ℕ → Value → Token
  Str : Value → Token
  At : AtWord → Value → Token
  Prefix : Token
  Base : Token
  Dot : Token
  Semicolon : Token
  Comma : Token
  OpenSquare : ℕ → Token
  CloseSquare : Token
  OpenRound : ℕ → Token
  CloseRound : ℕ → Token
  Carets : Token

abbrev pub terminal_of : Token → Terminal
terminal_of (Name f v) = terminal.Name f
terminal_of A = terminal.A
terminal_of (Blank v) = terminal.Blank
terminal_of (Literal d v) = terminal.Literal
terminal_of (Str v) = terminal.Str
terminal_of (At w v) = terminal.At w
terminal_of Prefix = terminal.Prefix
terminal_of Base = terminal.Base
terminal_of Dot = terminal.Dot
terminal_of Semicolon = terminal.Semicolon
terminal_of Comma = terminal.Comma
terminal_of (OpenSquare at) = terminal.OpenSquare
terminal_of CloseSquare = terminal.CloseSquare
terminal_of (OpenRound at) = terminal.OpenRound
terminal_of (CloseRound at) = terminal.CloseRound
terminal_of Carets = terminal.Carets
