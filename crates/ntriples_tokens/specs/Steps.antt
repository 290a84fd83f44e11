-- The machine: what a character of a class does to a state.
use Rattle.std.specs.Prelude.{ℕ, List, [], ◌∷◌, Bool, true, false, Option, None, Some, cond, nat_lt, slice_index, ◌==◌, ◌-◌}
use Rattle.text_patterns.specs.Patterns.{within}
use Rattle.ntriples_tokens.specs.declared.kinds.Kind.{Kind}
use Rattle.ntriples_tokens.specs.declared.kinds.Kind.TheVariants as kind
use Rattle.ntriples_tokens.specs.declared.classes.Class.{Class}
use Rattle.ntriples_tokens.specs.declared.classes.Class.TheVariants.{Less, Greater, Quote, Apostrophe, Backslash, Underscore, Colon, Point, At, Caret, Dash, LineEnd, Odd, Zero, One, ToSeven, ToNine, HexLetter, HexEscape, HexD, EscapeLetter, SmallU, LargeU, Letter, Labels, Inside, Other}
use Rattle.ntriples_tokens.specs.declared.states.Escape.{Escape}
use Rattle.ntriples_tokens.specs.declared.states.Escape.TheVariants.{Slash, First, Four, Three, Two, Last, Surrogate, Long, LongOne, LongTwo, LongThree, LongTop}
use Rattle.ntriples_tokens.specs.declared.states.Escaped.{Escaped}
use Rattle.ntriples_tokens.specs.declared.states.Escaped.TheVariants.{Within, Done, Bad}
use Rattle.ntriples_tokens.specs.declared.states.State.{State}
use Rattle.ntriples_tokens.specs.declared.states.State.TheVariants.{Start, Iri, IriEscape, IriEnd, BlankStart, BlankColon, BlankLabel, BlankPoint, InText, TextEscape, TextEnd, AtStart, AtLetters, AtDash, AtMore, CaretOne, CaretTwo, Stop, Lines}

abbrev pub if_hex : Class → Escaped → Escaped
if_hex Zero e = e
if_hex One e = e
if_hex ToSeven e = e
if_hex ToNine e = e
if_hex HexLetter e = e
if_hex HexEscape e = e
if_hex HexD e = e
if_hex _ e = Bad

abbrev pub next_escape : Escape → Class → Escaped
next_escape Slash SmallU = Within First
next_escape Slash LargeU = Within Long
next_escape Slash _ = Bad
next_escape First HexD = Within Surrogate
next_escape First k = if_hex k (Within Three)
next_escape Four k = if_hex k (Within Three)
next_escape Three k = if_hex k (Within Two)
next_escape Two k = if_hex k (Within Last)
next_escape Last k = if_hex k Done
next_escape Surrogate Zero = Within Two
next_escape Surrogate One = Within Two
next_escape Surrogate ToSeven = Within Two
next_escape Surrogate _ = Bad
next_escape Long Zero = Within LongOne
next_escape Long _ = Bad
next_escape LongOne Zero = Within LongTwo
next_escape LongOne _ = Bad
next_escape LongTwo Zero = Within LongThree
next_escape LongTwo One = Within LongTop
next_escape LongTwo _ = Bad
next_escape LongThree Zero = Within First
next_escape LongThree k = if_hex k (Within Four)
next_escape LongTop Zero = Within Four
next_escape LongTop _ = Bad

abbrev pub next_text_escape : Escape → Class → Escaped
next_text_escape Slash EscapeLetter = Done
next_text_escape Slash HexEscape = Done
next_text_escape Slash Quote = Done
next_text_escape Slash Apostrophe = Done
next_text_escape Slash Backslash = Done
next_text_escape e k = next_escape e k

abbrev pub in_iri : Escaped → Option State
in_iri (Within e) = Some (IriEscape e)
in_iri Done = Some Iri
in_iri Bad = None

abbrev pub in_text : Escaped → Option State
in_text (Within e) = Some (TextEscape e)
in_text Done = Some InText
in_text Bad = None

abbrev pub is_letter : Class → Bool
is_letter HexLetter = true
is_letter HexEscape = true
is_letter HexD = true
is_letter EscapeLetter = true
is_letter SmallU = true
is_letter LargeU = true
is_letter Letter = true
is_letter _ = false

abbrev pub is_digit : Class → Bool
is_digit Zero = true
is_digit One = true
is_digit ToSeven = true
is_digit ToNine = true
is_digit _ = false

abbrev pub begins_label : Class → Bool
begins_label Underscore = true
begins_label Colon = true
begins_label Labels = true
begins_label Zero = true
begins_label One = true
begins_label ToSeven = true
begins_label ToNine = true
begins_label HexLetter = true
begins_label HexEscape = true
begins_label HexD = true
begins_label EscapeLetter = true
begins_label SmallU = true
begins_label LargeU = true
begins_label Letter = true
begins_label _ = false

abbrev pub if_label : Class → Option State
if_label Dash = Some BlankLabel
if_label Inside = Some BlankLabel
if_label Underscore = Some BlankLabel
if_label Colon = Some BlankLabel
if_label Labels = Some BlankLabel
if_label Zero = Some BlankLabel
if_label One = Some BlankLabel
if_label ToSeven = Some BlankLabel
if_label ToNine = Some BlankLabel
if_label HexLetter = Some BlankLabel
if_label HexEscape = Some BlankLabel
if_label HexD = Some BlankLabel
if_label EscapeLetter = Some BlankLabel
if_label SmallU = Some BlankLabel
if_label LargeU = Some BlankLabel
if_label Letter = Some BlankLabel
if_label Point = Some BlankPoint
if_label _ = None

abbrev pub chosen : Bool → State → Option State
chosen true s = Some s
chosen false s = None

abbrev pub else_at : Option State → Bool → State → Option State
else_at o true s = Some s
else_at o false s = o

abbrev pub next : State → Class → Option State
next Start Less = Some Iri
next Start Quote = Some InText
next Start Underscore = Some BlankStart
next Start At = Some AtStart
next Start Caret = Some CaretOne
next Start Point = Some Stop
next Start LineEnd = Some Lines
next Start _ = None
next Iri Greater = Some IriEnd
next Iri Backslash = Some (IriEscape Slash)
next Iri Less = None
next Iri Quote = None
next Iri Caret = None
next Iri LineEnd = None
next Iri Odd = None
next Iri _ = Some Iri
next (IriEscape e) k = in_iri (next_escape e k)
next IriEnd _ = None
next BlankStart Colon = Some BlankColon
next BlankStart _ = None
next BlankColon k = chosen (begins_label k) BlankLabel
next BlankLabel k = if_label k
next BlankPoint k = if_label k
next InText Quote = Some TextEnd
next InText Backslash = Some (TextEscape Slash)
next InText LineEnd = None
next InText _ = Some InText
next (TextEscape e) k = in_text (next_text_escape e k)
next TextEnd _ = None
next AtStart k = chosen (is_letter k) AtLetters
next AtLetters Dash = Some AtDash
next AtLetters k = chosen (is_letter k) AtLetters
next AtDash k = else_at (chosen (is_letter k) AtMore) (is_digit k) AtMore
next AtMore Dash = Some AtDash
next AtMore k = else_at (chosen (is_letter k) AtMore) (is_digit k) AtMore
next CaretOne Caret = Some CaretTwo
next CaretOne _ = None
next CaretTwo _ = None
next Stop _ = None
next Lines LineEnd = Some Lines
next Lines _ = None

abbrev pub accepts : State → Option Kind
accepts IriEnd = Some kind.IriRef
accepts BlankLabel = Some kind.Blank
accepts TextEnd = Some kind.Str
accepts AtLetters = Some kind.AtWord
accepts AtMore = Some kind.AtWord
accepts CaretTwo = Some kind.Carets
accepts Stop = Some kind.Dot
accepts Lines = Some kind.Eol
accepts _ = None

abbrev pub pick : ℕ → List Class → Class
pick n [] = Other
pick n (k ∷ ks) = cond (n == 0) k (pick (n - 1) ks)

abbrev pub labels : List (ℕ × ℕ)
labels = (0xC0, 0xD6) ∷ (0xD8, 0xF6) ∷ (0xF8, 0x2FF) ∷ (0x370, 0x37D) ∷ (0x37F, 0x1FFF) ∷ (0x200C, 0x200D) ∷ (0x2070, 0x218F) ∷ (0x2C00, 0x2FEF) ∷ (0x3001, 0xD7FF) ∷ (0xF900, 0xFDCF) ∷ (0xFDF0, 0xFFFD) ∷ (0x10000, 0xEFFFF) ∷ []

abbrev pub inside : List (ℕ × ℕ)
inside = (0xB7, 0xB7) ∷ (0x300, 0x36F) ∷ (0x203F, 0x2040) ∷ []

abbrev pub class_numbered : ℕ → Class
class_numbered n = pick n (Less ∷ Greater ∷ Quote ∷ Apostrophe ∷ Backslash ∷ Underscore ∷ Colon ∷ Point ∷ At ∷ Caret ∷ Dash ∷ LineEnd ∷ Odd ∷ Zero ∷ One ∷ ToSeven ∷ ToNine ∷ HexLetter ∷ HexEscape ∷ HexD ∷ EscapeLetter ∷ SmallU ∷ LargeU ∷ Letter ∷ Labels ∷ Inside ∷ Other ∷ [])

abbrev pub ascii : List ℕ
ascii = 12 ∷ 12 ∷ 12 ∷ 12 ∷ 12 ∷ 12 ∷ 12 ∷ 12 ∷ 12 ∷ 12 ∷ 11 ∷ 12 ∷ 12 ∷ 11 ∷ 12 ∷ 12 ∷ 12 ∷ 12 ∷ 12 ∷ 12 ∷ 12 ∷ 12 ∷ 12 ∷ 12 ∷ 12 ∷ 12 ∷ 12 ∷ 12 ∷ 12 ∷ 12 ∷ 12 ∷ 12 ∷ 12 ∷ 26 ∷ 2 ∷ 26 ∷ 26 ∷ 26 ∷ 26 ∷ 3 ∷ 26 ∷ 26 ∷ 26 ∷ 26 ∷ 26 ∷ 10 ∷ 7 ∷ 26 ∷ 13 ∷ 14 ∷ 15 ∷ 15 ∷ 15 ∷ 15 ∷ 15 ∷ 15 ∷ 16 ∷ 16 ∷ 6 ∷ 26 ∷ 0 ∷ 26 ∷ 1 ∷ 26 ∷ 8 ∷ 17 ∷ 17 ∷ 17 ∷ 19 ∷ 17 ∷ 17 ∷ 23 ∷ 23 ∷ 23 ∷ 23 ∷ 23 ∷ 23 ∷ 23 ∷ 23 ∷ 23 ∷ 23 ∷ 23 ∷ 23 ∷ 23 ∷ 23 ∷ 22 ∷ 23 ∷ 23 ∷ 23 ∷ 23 ∷ 23 ∷ 26 ∷ 4 ∷ 26 ∷ 9 ∷ 5 ∷ 12 ∷ 17 ∷ 18 ∷ 17 ∷ 19 ∷ 17 ∷ 18 ∷ 23 ∷ 23 ∷ 23 ∷ 23 ∷ 23 ∷ 23 ∷ 23 ∷ 20 ∷ 23 ∷ 23 ∷ 23 ∷ 20 ∷ 23 ∷ 20 ∷ 21 ∷ 23 ∷ 23 ∷ 23 ∷ 23 ∷ 23 ∷ 12 ∷ 12 ∷ 12 ∷ 26 ∷ 26 ∷ []

abbrev pub class_at : ℕ → Class
class_at c = cond (nat_lt c 128) (class_numbered (slice_index ascii c)) (cond (within labels c) Labels (cond (within inside c) Inside Other))

abbrev pub is_final : State → Bool
is_final IriEnd = true
is_final TextEnd = true
is_final CaretTwo = true
is_final Stop = true
is_final _ = false
