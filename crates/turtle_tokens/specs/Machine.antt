-- The machine that reads the terminals, as a table of classes of characters.
use Rattle.std.specs.Prelude.{ℕ, [], get_or}
use Rattle.text_patterns.specs.Machines.{Machine}
use Rattle.text_patterns.specs.Tables.{Table, machine}
use Rattle.turtle_tokens.specs.Terminals.{spelling}
use Rattle.turtle_tokens.specs.Steps.{next, accepts, is_final, class_at, row_of, column_of, kinds}
use Rattle.turtle_tokens.specs.Ways.{samples, ways, ways_on, towards_numbers}
use Rattle.turtle_tokens.specs.declared.kinds.TokenKind.{TokenKind}
use Rattle.turtle_tokens.specs.declared.kinds.TokenKind.TheVariants.{IriRef, PnameNs, PnameLn, Blank, AtWord, Integer, Decimal, Double, Str, A, True, False, Prefix, Base, Dot, Semicolon, Comma, OpenSquare, CloseSquare, OpenRound, CloseRound, Carets}

-- the kinds by number
abbrev pub index : TokenKind → ℕ
index IriRef = 0
index PnameNs = 1
index PnameLn = 2
index Blank = 3
index AtWord = 4
index Integer = 5
index Decimal = 6
index Double = 7
index Str = 8
index A = 9
index True = 10
index False = 11
index Prefix = 12
index Base = 13
index Dot = 14
index Semicolon = 15
index Comma = 16
index OpenSquare = 17
index CloseSquare = 18
index OpenRound = 19
index CloseRound = 20
index Carets = 21

abbrev pub table : Table ℕ TokenKind ℕ
table = record {
  start = 0;
  next = next;
  accepts = accepts;
  is_final = is_final;
  spelling = spelling;
  class_at = class_at;
  sample = λ c. get_or samples (column_of c) 0;
  way = λ q. get_or ways (row_of q) [];
  way_on = λ q. get_or ways_on (row_of q) [];
  towards = λ q. get_or kinds (get_or towards_numbers (row_of q) 0) Carets;
  index = index;
}

-- The kinds of Turtle with their spellings.
abbrev pub turtle : Machine ℕ TokenKind
turtle = machine table
