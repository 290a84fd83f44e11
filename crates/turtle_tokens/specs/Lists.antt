-- A test that all kinds pass, or all rows and columns of the table.
use Rattle.std.proofs.Common.{ℕ, ◌≡◌, ◌<◌, refl, arith}
use Rattle.std.proofs.lemmas.Bool.{ltb-true}
use Rattle.std.specs.Prelude.{Bool, true, false, cond, nat_lt}
use Rattle.text_patterns.proofs.Spans.{all, all_parts, all_below, below_at}
use Rattle.turtle_tokens.specs.Steps.{kinds, row_of, column_of}
use Rattle.turtle_tokens.specs.declared.kinds.TokenKind.{TokenKind}
use Rattle.turtle_tokens.specs.declared.kinds.TokenKind.TheVariants as kind

cut_small : (n q : ℕ) (b : Bool) → nat_lt q n ≡ b → 0 < n → cond b q 0 < n
cut_small n q true e h = ltb-true q n e
cut_small n q false e h = h

pub each_row : (f : ℕ → Bool) → all_below 133 f ≡ true → (q : ℕ) → f (row_of q) ≡ true
each_row f h q = below_at 133 f (row_of q) h (cut_small 133 q (nat_lt q 133) refl (omega arith))

pub each_column : (f : ℕ → Bool) → all_below 52 f ≡ true → (c : ℕ) → f (column_of c) ≡ true
each_column f h c = below_at 52 f (column_of c) h (cut_small 52 c (nat_lt c 52) refl (omega arith))

pub each_kind : (f : TokenKind → Bool) → all f kinds ≡ true → (k : TokenKind) → f k ≡ true
each_kind f h kind.IriRef = (all_parts f kinds h).0
each_kind f h kind.PnameNs = (all_parts f kinds h).1.0
each_kind f h kind.PnameLn = (all_parts f kinds h).1.1.0
each_kind f h kind.Blank = (all_parts f kinds h).1.1.1.0
each_kind f h kind.AtWord = (all_parts f kinds h).1.1.1.1.0
each_kind f h kind.Integer = (all_parts f kinds h).1.1.1.1.1.0
each_kind f h kind.Decimal = (all_parts f kinds h).1.1.1.1.1.1.0
each_kind f h kind.Double = (all_parts f kinds h).1.1.1.1.1.1.1.0
each_kind f h kind.Str = (all_parts f kinds h).1.1.1.1.1.1.1.1.0
each_kind f h kind.A = (all_parts f kinds h).1.1.1.1.1.1.1.1.1.0
each_kind f h kind.True = (all_parts f kinds h).1.1.1.1.1.1.1.1.1.1.0
each_kind f h kind.False = (all_parts f kinds h).1.1.1.1.1.1.1.1.1.1.1.0
each_kind f h kind.Prefix = (all_parts f kinds h).1.1.1.1.1.1.1.1.1.1.1.1.0
each_kind f h kind.Base = (all_parts f kinds h).1.1.1.1.1.1.1.1.1.1.1.1.1.0
each_kind f h kind.Dot = (all_parts f kinds h).1.1.1.1.1.1.1.1.1.1.1.1.1.1.0
each_kind f h kind.Semicolon = (all_parts f kinds h).1.1.1.1.1.1.1.1.1.1.1.1.1.1.1.0
each_kind f h kind.Comma = (all_parts f kinds h).1.1.1.1.1.1.1.1.1.1.1.1.1.1.1.1.0
each_kind f h kind.OpenSquare = (all_parts f kinds h).1.1.1.1.1.1.1.1.1.1.1.1.1.1.1.1.1.0
each_kind f h kind.CloseSquare = (all_parts f kinds h).1.1.1.1.1.1.1.1.1.1.1.1.1.1.1.1.1.1.0
each_kind f h kind.OpenRound = (all_parts f kinds h).1.1.1.1.1.1.1.1.1.1.1.1.1.1.1.1.1.1.1.0
each_kind f h kind.CloseRound = (all_parts f kinds h).1.1.1.1.1.1.1.1.1.1.1.1.1.1.1.1.1.1.1.1.0
each_kind f h kind.Carets = (all_parts f kinds h).1.1.1.1.1.1.1.1.1.1.1.1.1.1.1.1.1.1.1.1.1.0
