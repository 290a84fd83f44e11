-- The machine that reads the terminals, as a table of classes of characters.
use Rattle.std.specs.Prelude.{ℕ, List, [], ◌∷◌, ◌++◌}
use Rattle.text_patterns.specs.Machines.{Machine}
use Rattle.text_patterns.specs.Tables.{Table, machine}
use Rattle.ntriples_tokens.specs.Terminals.{spelling}
use Rattle.ntriples_tokens.specs.Steps.{next, accepts, is_final, class_at}
use Rattle.ntriples_tokens.specs.declared.kinds.Kind.{Kind}
use Rattle.ntriples_tokens.specs.declared.kinds.Kind.TheVariants as kind
use Rattle.ntriples_tokens.specs.declared.classes.Class.{Class}
use Rattle.ntriples_tokens.specs.declared.classes.Class.TheVariants as class
use Rattle.ntriples_tokens.specs.declared.states.Escape.{Escape}
use Rattle.ntriples_tokens.specs.declared.states.Escape.TheVariants as escape
use Rattle.ntriples_tokens.specs.declared.states.State.{State}
use Rattle.ntriples_tokens.specs.declared.states.State.TheVariants as state

-- a character of each class
abbrev pub sample : Class → ℕ
sample class.Less = 0x3C
sample class.Greater = 0x3E
sample class.Quote = 0x22
sample class.Apostrophe = 0x27
sample class.Backslash = 0x5C
sample class.Underscore = 0x5F
sample class.Colon = 0x3A
sample class.Point = 0x2E
sample class.At = 0x40
sample class.Caret = 0x5E
sample class.Dash = 0x2D
sample class.LineEnd = 0xA
sample class.Odd = 0x20
sample class.Zero = 0x30
sample class.One = 0x31
sample class.ToSeven = 0x32
sample class.ToNine = 0x38
sample class.HexLetter = 0x61
sample class.HexEscape = 0x62
sample class.HexD = 0x64
sample class.EscapeLetter = 0x74
sample class.SmallU = 0x75
sample class.LargeU = 0x55
sample class.Letter = 0x67
sample class.Labels = 0xC0
sample class.Inside = 0xB7
sample class.Other = 0x21

-- a text that leads to the state
abbrev pub escape_way : Escape → List ℕ
escape_way escape.Slash = 0x5C ∷ []
escape_way escape.First = 0x5C ∷ 0x75 ∷ []
escape_way escape.Four = 0x5C ∷ 0x55 ∷ 0x30 ∷ 0x30 ∷ 0x30 ∷ 0x31 ∷ []
escape_way escape.Three = 0x5C ∷ 0x75 ∷ 0x30 ∷ []
escape_way escape.Two = 0x5C ∷ 0x75 ∷ 0x30 ∷ 0x30 ∷ []
escape_way escape.Last = 0x5C ∷ 0x75 ∷ 0x30 ∷ 0x30 ∷ 0x30 ∷ []
escape_way escape.Surrogate = 0x5C ∷ 0x75 ∷ 0x44 ∷ []
escape_way escape.Long = 0x5C ∷ 0x55 ∷ []
escape_way escape.LongOne = 0x5C ∷ 0x55 ∷ 0x30 ∷ []
escape_way escape.LongTwo = 0x5C ∷ 0x55 ∷ 0x30 ∷ 0x30 ∷ []
escape_way escape.LongThree = 0x5C ∷ 0x55 ∷ 0x30 ∷ 0x30 ∷ 0x30 ∷ []
escape_way escape.LongTop = 0x5C ∷ 0x55 ∷ 0x30 ∷ 0x30 ∷ 0x31 ∷ []

abbrev pub way : State → List ℕ
way state.Start = []
way state.Iri = 0x3C ∷ []
way (state.IriEscape e) = 0x3C ∷ escape_way e
way state.IriEnd = 0x3C ∷ 0x3E ∷ []
way state.BlankStart = 0x5F ∷ []
way state.BlankColon = 0x5F ∷ 0x3A ∷ []
way state.BlankLabel = 0x5F ∷ 0x3A ∷ 0x61 ∷ 0x61 ∷ []
way state.BlankPoint = 0x5F ∷ 0x3A ∷ 0x61 ∷ 0x2E ∷ []
way state.InText = 0x22 ∷ []
way (state.TextEscape e) = 0x22 ∷ escape_way e
way state.TextEnd = 0x22 ∷ 0x22 ∷ []
way state.AtStart = 0x40 ∷ []
way state.AtLetters = 0x40 ∷ 0x61 ∷ []
way state.AtDash = 0x40 ∷ 0x61 ∷ 0x2D ∷ []
way state.AtMore = 0x40 ∷ 0x61 ∷ 0x2D ∷ 0x61 ∷ []
way state.CaretOne = 0x5E ∷ []
way state.CaretTwo = 0x5E ∷ 0x5E ∷ []
way state.Stop = 0x2E ∷ []
way state.Lines = 0xA ∷ []

-- a way on from the state to the end of a token
abbrev pub escape_on : Escape → List ℕ
escape_on escape.Slash = 0x75 ∷ 0x30 ∷ 0x30 ∷ 0x30 ∷ 0x30 ∷ []
escape_on escape.First = 0x30 ∷ 0x30 ∷ 0x30 ∷ 0x30 ∷ []
escape_on escape.Four = 0x30 ∷ 0x30 ∷ 0x30 ∷ 0x30 ∷ []
escape_on escape.Three = 0x30 ∷ 0x30 ∷ 0x30 ∷ []
escape_on escape.Two = 0x30 ∷ 0x30 ∷ []
escape_on escape.Last = 0x30 ∷ []
escape_on escape.Surrogate = 0x30 ∷ 0x30 ∷ 0x30 ∷ []
escape_on escape.Long = 0x30 ∷ 0x30 ∷ 0x30 ∷ 0x30 ∷ 0x30 ∷ 0x30 ∷ 0x30 ∷ 0x30 ∷ []
escape_on escape.LongOne = 0x30 ∷ 0x30 ∷ 0x30 ∷ 0x30 ∷ 0x30 ∷ 0x30 ∷ 0x30 ∷ []
escape_on escape.LongTwo = 0x30 ∷ 0x30 ∷ 0x30 ∷ 0x30 ∷ 0x30 ∷ 0x30 ∷ []
escape_on escape.LongThree = 0x30 ∷ 0x30 ∷ 0x30 ∷ 0x30 ∷ 0x30 ∷ []
escape_on escape.LongTop = 0x30 ∷ 0x30 ∷ 0x30 ∷ 0x30 ∷ 0x30 ∷ []

abbrev pub way_on : State → List ℕ
way_on state.Start = 0x2E ∷ []
way_on state.Iri = 0x3E ∷ []
way_on state.IriEnd = []
way_on state.BlankStart = 0x3A ∷ 0x61 ∷ []
way_on state.BlankColon = 0x61 ∷ []
way_on state.BlankLabel = 0x61 ∷ []
way_on state.BlankPoint = 0x61 ∷ []
way_on state.InText = 0x22 ∷ []
way_on state.TextEnd = []
way_on state.AtStart = 0x61 ∷ []
way_on state.AtLetters = 0x61 ∷ []
way_on state.AtDash = 0x61 ∷ []
way_on state.AtMore = 0x61 ∷ []
way_on state.CaretOne = 0x5E ∷ []
way_on state.CaretTwo = []
way_on state.Stop = []
way_on state.Lines = 0xA ∷ []
way_on (state.IriEscape e) = escape_on e ++ 0x3E ∷ []
way_on (state.TextEscape e) = escape_on e ++ 0x22 ∷ []

abbrev pub towards : State → Kind
towards state.Start = kind.Dot
towards state.Iri = kind.IriRef
towards state.IriEnd = kind.IriRef
towards state.BlankStart = kind.Blank
towards state.BlankColon = kind.Blank
towards state.BlankLabel = kind.Blank
towards state.BlankPoint = kind.Blank
towards state.InText = kind.Str
towards state.TextEnd = kind.Str
towards state.AtStart = kind.AtWord
towards state.AtLetters = kind.AtWord
towards state.AtDash = kind.AtWord
towards state.AtMore = kind.AtWord
towards state.CaretOne = kind.Carets
towards state.CaretTwo = kind.Carets
towards state.Stop = kind.Dot
towards state.Lines = kind.Eol
towards (state.IriEscape e) = kind.IriRef
towards (state.TextEscape e) = kind.Str

-- the kinds by number
abbrev pub index : Kind → ℕ
index kind.IriRef = 0
index kind.Blank = 1
index kind.Str = 2
index kind.AtWord = 3
index kind.Carets = 4
index kind.Dot = 5
index kind.Eol = 6

abbrev pub table : Table State Kind Class
table = record {
  start = state.Start;
  next = next;
  accepts = accepts;
  is_final = is_final;
  spelling = spelling;
  class_at = class_at;
  sample = sample;
  way = way;
  way_on = way_on;
  towards = towards;
  index = index;
}

-- The kinds of N-Triples with their spellings.
abbrev pub ntriples : Machine State Kind
ntriples = machine table
