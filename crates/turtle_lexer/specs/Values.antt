-- What the characters of a token stand for.
use Rattle.std.specs.Prelude.{ℕ, List, [], ◌∷◌, ◌==◌, cond, is_some, drop}
use lib.Utf8.{encodes}
use Rattle.turtle_tokens.specs.declared.kinds.TokenKind.{TokenKind}
use Rattle.turtle_tokens.specs.declared.kinds.TokenKind.TheVariants.{IriRef, PnameNs, PnameLn, Blank, AtWord, Integer, Decimal, Double, Str, A, True, False, Prefix, Base}
use Rattle.turtle_tokens.specs.Marks.{three_marks}
use Rattle.token_scanner.specs.Widths.{width}
use Rattle.rdf_reading.specs.Values.{unescaped, inside}

-- how many quote marks begin a string
abbrev pub marks : List ℕ → ℕ
marks chars = cond (is_some (three_marks chars)) 3 1

-- before the first colon, and behind it
abbrev pub before_colon : List ℕ → List ℕ
before_colon [] = []
before_colon (c ∷ s) = cond (c == 0x3A) [] (c ∷ before_colon s)

-- a local name without the backslashes of its escapes
abbrev pub local_name : List ℕ → List ℕ
local_name [] = []
local_name (c ∷ s) = cond (c == 0x5C) (local_name s) (c ∷ local_name s)

-- the prefix directly followed by the local name
abbrev pub name : List ℕ → List ℕ
name [] = []
name (c ∷ s) = cond (c == 0x3A) (local_name s) (c ∷ name s)

-- the characters of a token's value
abbrev pub value : TokenKind → List ℕ → List ℕ
value IriRef chars = unescaped (inside 1 chars)
value Str chars = unescaped (inside (marks chars) chars)
value PnameNs chars = name chars
value PnameLn chars = name chars
value Blank chars = drop 2 chars
value AtWord chars = drop 1 chars
value Integer chars = chars
value Decimal chars = chars
value Double chars = chars
value A chars = chars
value True chars = chars
value False chars = chars
value Prefix chars = chars
value Base chars = chars
value _ chars = []

-- and its bytes
abbrev pub value_text : TokenKind → List ℕ → List ℕ
value_text kind chars = encodes (value kind chars)

-- the length of a name's prefix in bytes
abbrev pub prefix_width : TokenKind → List ℕ → ℕ
prefix_width PnameNs chars = width (before_colon chars)
prefix_width PnameLn chars = width (before_colon chars)
prefix_width _ chars = 0
