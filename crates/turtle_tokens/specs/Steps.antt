-- The machine: what a character of a class does to a state. Numbers beyond the last are read as 0.
use Rattle.std.specs.Prelude.{ℕ, List, [], ◌∷◌, ◌==◌, ◌-◌, Bool, false, Option, None, Some, cond, nat_lt, slice_index, slice_index_or}
use Rattle.text_patterns.specs.Patterns.{within}
use Rattle.rdf_chars.specs.Sets.{pn_chars_base, pn_chars}
use Rattle.turtle_tokens.specs.declared.kinds.TokenKind.{TokenKind}
use Rattle.turtle_tokens.specs.declared.kinds.TokenKind.TheVariants.{IriRef, PnameNs, PnameLn, Blank, AtWord, Integer, Decimal, Double, Str, A, True, False, Prefix, Base, Dot, Semicolon, Comma, OpenSquare, CloseSquare, OpenRound, CloseRound, Carets}
use Rattle.turtle_tokens.specs.declared.table.TheConstants.{ASCII, NEXT, ENDS, FINAL}

abbrev pub class_at : ℕ → ℕ
class_at c = cond (nat_lt c 128) (slice_index ASCII c) (cond (within pn_chars_base c) 50 (cond (within pn_chars c) 51 49))

abbrev pub row_of : ℕ → ℕ
row_of q = cond (nat_lt q 133) q 0

abbrev pub column_of : ℕ → ℕ
column_of c = cond (nat_lt c 52) c 0

abbrev pub state_numbered : ℕ → Option ℕ
state_numbered n = cond (nat_lt n 133) (Some n) None

abbrev pub entry : ℕ → ℕ → Option ℕ
entry row column = state_numbered (slice_index (slice_index_or NEXT row []) column)

abbrev pub next : ℕ → ℕ → Option ℕ
next q c = entry (row_of q) (column_of c)

-- the kinds in order
abbrev pub kinds : List TokenKind
kinds = IriRef ∷ PnameNs ∷ PnameLn ∷ Blank ∷ AtWord ∷ Integer ∷ Decimal ∷ Double ∷ Str ∷ A ∷ True ∷ False ∷ Prefix ∷ Base ∷ Dot ∷ Semicolon ∷ Comma ∷ OpenSquare ∷ CloseSquare ∷ OpenRound ∷ CloseRound ∷ Carets ∷ []

abbrev pub pick : ℕ → List TokenKind → Option TokenKind
pick n [] = None
pick n (k ∷ ks) = cond (n == 0) (Some k) (pick (n - 1) ks)

abbrev pub kind_numbered : ℕ → Option TokenKind
kind_numbered n = pick n kinds

abbrev pub accepts : ℕ → Option TokenKind
accepts q = kind_numbered (slice_index ENDS (row_of q))

abbrev pub is_final : ℕ → Bool
is_final q = slice_index_or FINAL (row_of q) false
