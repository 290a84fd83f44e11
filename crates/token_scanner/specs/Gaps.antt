-- What stands between tokens.
use Rattle.std.specs.Prelude.{ℕ, ◌==◌, ◌||◌, cond, Bool}
use Rattle.token_scanner.specs.declared.place.Place.{Place}
use Rattle.token_scanner.specs.declared.place.Place.TheVariants.{Beginning, Between, Comment}
use Rattle.token_scanner.specs.declared.place.Gap.{Gap}
use Rattle.token_scanner.specs.declared.place.Gap.TheVariants.{Skip, Token}

-- a line's end is a token, or white space
abbrev pub line_end : Bool → Gap
line_end lines = cond lines Token (Skip Between)

-- between tokens: white space is skipped, and a comment begins at a number sign
abbrev pub gap_between : Bool → ℕ → Gap
gap_between lines c = cond (c == 32 || c == 9) (Skip Between) (cond (c == 10 || c == 13) (line_end lines) (cond (c == 35) (Skip Comment) Token))

-- What a character is where a token may begin. A byte order mark is skipped at the beginning alone; a comment ends at a line's end.
abbrev pub gap_at : Bool → Place → ℕ → Gap
gap_at lines Beginning c = cond (c == 0xFEFF) (Skip Between) (gap_between lines c)
gap_at lines Between c = gap_between lines c
gap_at lines Comment c = cond (c == 10 || c == 13) (line_end lines) (Skip Comment)
