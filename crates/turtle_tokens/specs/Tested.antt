-- The tests of the table pass, so it is a machine.
use Rattle.std.proofs.Common.{ℕ, [], ◌≡◌, refl, ap, sym, ◌∙◌}
use Rattle.std.specs.Prelude.{Bool, true, cond, ◌&&◌, ◌||◌, nat_lt, length, get_or, slice_index, slice_index_or, false}
use mathlib.Core.Bool.{beq}
use Rattle.text_patterns.specs.Derivatives.{nullable, derivative, after, alike, is_shut}
use Rattle.text_patterns.specs.Patterns.{Pattern}
use Rattle.text_patterns.specs.Machines.{IsMachine}
use Rattle.text_patterns.specs.Tables.{IsTable, rest_of_option, is_indexed}
use Rattle.text_patterns.proofs.Spans.{all, all_below}
use Rattle.text_patterns.proofs.Steps.{table_machine}
use Rattle.turtle_tokens.specs.Terminals.{spelling}
use Rattle.turtle_tokens.specs.Ways.{samples, ways, ways_on, towards_numbers}
use Rattle.turtle_tokens.specs.Steps.{kinds, entry, kind_numbered, row_of, column_of}
use Rattle.turtle_tokens.specs.Machine.{index, table, turtle}
use Rattle.turtle_tokens.specs.declared.table.TheConstants.{ENDS, FINAL}
use Rattle.turtle_tokens.specs.declared.kinds.TokenKind.{TokenKind}
use Rattle.turtle_tokens.specs.declared.kinds.TokenKind.TheVariants as kind
use Rattle.turtle_tokens.specs.Lists.{each_kind, each_row, each_column}
use Rattle.turtle_tokens.specs.Sampled.{sampled}

-- what the kind still wants in the state of the row
abbrev rest : ℕ → TokenKind → Pattern
rest row k = after (spelling k) (get_or ways row [])

abbrev fits : ℕ → ℕ → TokenKind → Bool
fits row column k = alike (derivative (rest row k) (get_or samples column 0)) (rest_of_option table (entry row column) k)

rows_fit : all_below 133 (λ row. all_below 52 (λ column. all (fits row column) kinds)) ≡ true
rows_fit = refl

abbrev ends : ℕ → TokenKind → Bool
ends row k = beq (nullable (rest row k)) (is_indexed index (kind_numbered (slice_index ENDS row)) (index k))

rows_end : all_below 133 (λ row. all (ends row) kinds) ≡ true
rows_end = refl

abbrev shuts : ℕ → TokenKind → Bool
shuts row k = cond (slice_index_or FINAL row false) (is_shut (rest row k)) true

rows_shut : all_below 133 (λ row. all (shuts row) kinds) ≡ true
rows_shut = refl

abbrev goes : ℕ → Bool
goes row = (slice_index_or FINAL row false || nat_lt 0 (length (get_or ways_on row [])))
    && nullable (after (rest row (get_or kinds (get_or towards_numbers row 0) kind.Carets)) (get_or ways_on row []))

rows_go : all_below 133 goes ≡ true
rows_go = refl

pub kind_of : (k : TokenKind) → get_or kinds (index k) kind.Carets ≡ k
kind_of kind.IriRef = refl
kind_of kind.PnameNs = refl
kind_of kind.PnameLn = refl
kind_of kind.Blank = refl
kind_of kind.AtWord = refl
kind_of kind.Integer = refl
kind_of kind.Decimal = refl
kind_of kind.Double = refl
kind_of kind.Str = refl
kind_of kind.A = refl
kind_of kind.True = refl
kind_of kind.False = refl
kind_of kind.Prefix = refl
kind_of kind.Base = refl
kind_of kind.Dot = refl
kind_of kind.Semicolon = refl
kind_of kind.Comma = refl
kind_of kind.OpenSquare = refl
kind_of kind.CloseSquare = refl
kind_of kind.OpenRound = refl
kind_of kind.CloseRound = refl
kind_of kind.Carets = refl

turtle_table : IsTable table
turtle_table = record {
  starts = refl;
  sampled = sampled;
  fitting = λ q c k. each_kind (fits (row_of q) (column_of c)) (each_column (λ column. all (fits (row_of q) column) kinds) (each_row (λ row. all_below 52 (λ column. all (fits row column) kinds)) rows_fit q) c) k;
  ending = λ q k. each_kind (ends (row_of q)) (each_row (λ row. all (ends row) kinds) rows_end q) k;
  shutting = λ q k. each_kind (shuts (row_of q)) (each_row (λ row. all (shuts row) kinds) rows_shut q) k;
  going = λ q. each_row goes rows_go q;
  apart = λ j k e. sym (kind_of j) ∙ ap (λ n. get_or kinds n kind.Carets) e ∙ kind_of k;
}

pub turtle_machine : IsMachine turtle
turtle_machine = table_machine table turtle_table
