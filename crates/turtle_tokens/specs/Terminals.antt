-- The terminals of Turtle, as the standard spells them.
use Rattle.std.specs.Prelude.{ℕ, ◌+◌, ◌-◌, [], ◌∷◌, ◌++◌}
use Rattle.rdf_chars.specs.Sets.{pn_chars_base, pn_chars_u, pn_chars}
use Rattle.text_patterns.specs.Patterns.{Pattern, ◌then◌, ◌or◌, char, optional, some_of}
use Rattle.text_patterns.specs.Patterns.Pattern.{One, Many}
use Rattle.turtle_tokens.specs.declared.kinds.TokenKind.{TokenKind}
use Rattle.turtle_tokens.specs.declared.kinds.TokenKind.TheVariants.{IriRef, PnameNs, PnameLn, Blank, AtWord, Integer, Decimal, Double, Str, A, True, False, Prefix, Base, Dot, Semicolon, Comma, OpenSquare, CloseSquare, OpenRound, CloseRound, Carets}

abbrev pub hex : Pattern
hex = One ((0x30, 0x39) ∷ (0x41, 0x46) ∷ (0x61, 0x66) ∷ [])

-- four digits whose number is a scalar value: D800 to DFFF are none
abbrev pub scalar4 : Pattern
scalar4 = (One ((0x30, 0x39) ∷ (0x41, 0x43) ∷ (0x45, 0x46) ∷ (0x61, 0x63) ∷ (0x65, 0x66) ∷ []) then hex then hex then hex)
    or (One ((0x44, 0x44) ∷ (0x64, 0x64) ∷ []) then One ((0x30, 0x37) ∷ []) then hex then hex)

abbrev pub scalar8 : Pattern
scalar8 = char 0x30 then char 0x30 then
    ((char 0x30 then ((char 0x30 then scalar4) or (One ((0x31, 0x39) ∷ (0x41, 0x46) ∷ (0x61, 0x66) ∷ []) then hex then hex then hex then hex)))
    or (char 0x31 then char 0x30 then hex then hex then hex then hex))

-- UCHAR and ECHAR behind the backslash
abbrev pub uchar : Pattern
uchar = (char 0x75 then scalar4) or (char 0x55 then scalar8)

abbrev pub echar : Pattern
echar = One ((0x74, 0x74) ∷ (0x62, 0x62) ∷ (0x6E, 0x6E) ∷ (0x72, 0x72) ∷ (0x66, 0x66) ∷ (0x22, 0x22) ∷ (0x27, 0x27) ∷ (0x5C, 0x5C) ∷ [])

abbrev pub escape : Pattern
escape = char 0x5C then (echar or uchar)

-- not 0 to 20, < > " { } | ^ ` and backslash
abbrev pub iri_char : Pattern
iri_char = One ((0x21, 0x21) ∷ (0x23, 0x3B) ∷ (0x3D, 0x3D) ∷ (0x3F, 0x5B) ∷ (0x5D, 0x5D) ∷ (0x5F, 0x5F) ∷ (0x61, 0x7A) ∷ (0x7E, 0x10FFFF) ∷ [])

-- not the quote mark, backslash, A and D
abbrev pub short_char : ℕ → Pattern
short_char mark = One ((0x0, 0x9) ∷ (0xB, 0xC) ∷ (0xE, mark - 1) ∷ (mark + 1, 0x5B) ∷ (0x5D, 0x10FFFF) ∷ [])

-- not the quote mark and backslash
abbrev pub long_char : ℕ → Pattern
long_char mark = One ((0x0, mark - 1) ∷ (mark + 1, 0x5B) ∷ (0x5D, 0x10FFFF) ∷ [])

abbrev pub short_string : ℕ → Pattern
short_string mark = char mark then Many (short_char mark or escape) then char mark

abbrev pub long_string : ℕ → Pattern
long_string mark = char mark then char mark then char mark
    then Many (optional (char mark then optional (char mark)) then (long_char mark or escape)) then char mark then char mark then char mark

abbrev pub percent : Pattern
percent = char 0x25 then hex then hex

-- a backslash and one of _~.-!$&'()*+,;=/?#@%
abbrev pub local_escape : Pattern
local_escape = char 0x5C then One ((0x5F, 0x5F) ∷ (0x7E, 0x7E) ∷ (0x2E, 0x2E) ∷ (0x2D, 0x2D) ∷ (0x21, 0x21) ∷ (0x24, 0x24) ∷ (0x26, 0x26) ∷ (0x27, 0x27) ∷ (0x28, 0x28) ∷ (0x29, 0x29)
    ∷ (0x2A, 0x2A) ∷ (0x2B, 0x2B) ∷ (0x2C, 0x2C) ∷ (0x3B, 0x3B) ∷ (0x3D, 0x3D) ∷ (0x2F, 0x2F) ∷ (0x3F, 0x3F) ∷ (0x23, 0x23) ∷ (0x40, 0x40) ∷ (0x25, 0x25) ∷ [])

abbrev pub plx : Pattern
plx = percent or local_escape

abbrev pub dot_range : ℕ × ℕ
dot_range = (0x2E, 0x2E)

abbrev pub colon_range : ℕ × ℕ
colon_range = (0x3A, 0x3A)

abbrev pub digit_range : ℕ × ℕ
digit_range = (0x30, 0x39)

-- behind the first character of a prefix or a label
abbrev pub label_rest : Pattern
label_rest = optional (Many (One (pn_chars ++ dot_range ∷ [])) then One pn_chars)

abbrev pub pname_ns : Pattern
pname_ns = optional (One pn_chars_base then label_rest) then char 0x3A

abbrev pub pn_local : Pattern
pn_local = (One (pn_chars_u ++ colon_range ∷ digit_range ∷ []) or plx)
    then optional (Many (One (pn_chars ++ dot_range ∷ colon_range ∷ []) or plx) then (One (pn_chars ++ colon_range ∷ []) or plx))

abbrev pub letter : Pattern
letter = One ((0x41, 0x5A) ∷ (0x61, 0x7A) ∷ [])

abbrev pub letter_or_digit : Pattern
letter_or_digit = One ((0x30, 0x39) ∷ (0x41, 0x5A) ∷ (0x61, 0x7A) ∷ [])

abbrev pub digit : Pattern
digit = One (digit_range ∷ [])

abbrev pub sign : Pattern
sign = optional (One ((0x2B, 0x2B) ∷ (0x2D, 0x2D) ∷ []))

abbrev pub exponent : Pattern
exponent = One ((0x65, 0x65) ∷ (0x45, 0x45) ∷ []) then sign then some_of digit

-- a capital letter, or the small one that stands 20 above it
abbrev pub any_case : ℕ → Pattern
any_case c = One ((c, c) ∷ (c + 0x20, c + 0x20) ∷ [])

abbrev pub spelling : TokenKind → Pattern
spelling IriRef = char 0x3C then Many (iri_char or (char 0x5C then uchar)) then char 0x3E
spelling PnameNs = pname_ns
spelling PnameLn = pname_ns then pn_local
spelling Blank = char 0x5F then char 0x3A then One (pn_chars_u ++ digit_range ∷ []) then label_rest
spelling AtWord = char 0x40 then some_of letter then Many (char 0x2D then some_of letter_or_digit)
spelling Integer = sign then some_of digit
spelling Decimal = sign then Many digit then char 0x2E then some_of digit
spelling Double = sign then ((some_of digit then char 0x2E then Many digit then exponent) or (char 0x2E then some_of digit then exponent) or (some_of digit then exponent))
spelling Str = (short_string 0x22 or short_string 0x27) or (long_string 0x22 or long_string 0x27)
spelling A = char 0x61
spelling True = char 0x74 then char 0x72 then char 0x75 then char 0x65
spelling False = char 0x66 then char 0x61 then char 0x6C then char 0x73 then char 0x65
spelling Prefix = any_case 0x50 then any_case 0x52 then any_case 0x45 then any_case 0x46 then any_case 0x49 then any_case 0x58
spelling Base = any_case 0x42 then any_case 0x41 then any_case 0x53 then any_case 0x45
spelling Dot = char 0x2E
spelling Semicolon = char 0x3B
spelling Comma = char 0x2C
spelling OpenSquare = char 0x5B
spelling CloseSquare = char 0x5D
spelling OpenRound = char 0x28
spelling CloseRound = char 0x29
spelling Carets = char 0x5E then char 0x5E
