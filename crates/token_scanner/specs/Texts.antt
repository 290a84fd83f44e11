-- The tokens of a text, in the standard's words: each is the longest spelling at the front of the rest, behind a gap.
use Rattle.std.specs.Prelude.{ℕ, ◌+◌, ◌<◌, ◌≤◌, ◌≡◌, List, [], ◌∷◌, ◌++◌, length, take, Option, None, Some}
use Rattle.text_patterns.specs.Patterns.{Pattern, Matches}
use Rattle.text_patterns.specs.Machines.{Spells}
use Rattle.token_scanner.specs.Scanners.{Scanner}
use Rattle.token_scanner.specs.Gaps.{gap_at}
use Rattle.token_scanner.specs.declared.place.Place.{Place}
use Rattle.token_scanner.specs.declared.place.Place.TheVariants.{Between}
use Rattle.token_scanner.specs.declared.place.Gap.TheVariants as gap
use Rattle.token_scanner.specs.Widths.{width}
use Rattle.token_scanner.specs.Items.{Items, TokenFirst}
use Rattle.token_scanner.specs.Items.Items.{Stop, Bad, TooLong, Item}

-- What may be a token: any spelling; where the text has no other than of one kind and pattern, only such a one.
abbrev pub IsTried : {State Kind : Type 0} → Scanner State Kind → Option (Kind × Pattern) → Kind → List ℕ → Type 0
IsTried syn None k s = Spells syn.machine k s
IsTried syn (Some x) k s = (k ≡ x.0) × Matches x.1 s

-- The first n characters of the text are its token: the longest that may be one.
pub record IsToken {State Kind : Type 0} (syn : Scanner State Kind) (text : List ℕ) (kind : Kind) (n : ℕ) : Type 0 where
  pub some : 0 < n
  pub in_text : n ≤ length text
  pub spelled : IsTried syn (syn.only text) kind (take n text)
  pub longest : (j : Kind) (i : ℕ) → i ≤ length text → IsTried syn (syn.only text) j (take i text) → i ≤ n

-- No front of the text may be a token.
abbrev pub HasNoToken : {State Kind : Type 0} → Scanner State Kind → List ℕ → Type 0
HasNoToken {State} {Kind} syn text = (j : Kind) (i : ℕ) → i ≤ length text → IsTried syn (syn.only text) j (take i text) → ⊥

-- The first characters that take more than 65,536 bytes begin some token.
pub record IsTooLong {State Kind : Type 0} (syn : Scanner State Kind) (text : List ℕ) : Type 0 where
  pub count : ℕ
  pub in_text : count ≤ length text
  pub wide : 65536 < width (take count text)
  pub front : (k : Kind) × (more : List ℕ) × Spells syn.machine k (take count text ++ more)

-- White space and comments, and at the beginning a byte order mark; no more of them follow.
abbrev pub IsGap : {State Kind : Type 0} → Scanner State Kind → Place → List ℕ → List ℕ → Type 0
IsGap syn p [] rest = TokenFirst syn p rest
IsGap syn p (c ∷ g) rest = (q : Place) × (gap_at syn.lines p c ≡ gap.Skip q) × IsGap syn q g rest

-- What the items say of a text whose first character stands at this byte offset.
abbrev pub AreItems : {State Kind : Type 0} → Scanner State Kind → Place → List ℕ → ℕ → Items Kind → Type 0
AreItems syn p text at (Stop end) = IsGap syn p text [] × (end ≡ at + width text)
AreItems syn p text at (Bad place) = (g : List ℕ) × (rest : List ℕ) × (text ≡ g ++ rest) × IsGap syn p g rest × (0 < length rest)
    × HasNoToken syn rest × (IsTooLong syn rest → ⊥) × (place ≡ at + width g)
AreItems syn p text at (TooLong place) = (g : List ℕ) × (rest : List ℕ) × (text ≡ g ++ rest) × IsGap syn p g rest × (0 < length rest)
    × IsTooLong syn rest × (place ≡ at + width g)
AreItems syn p text at (Item k chars place more) = (g : List ℕ) × (rest : List ℕ) × (text ≡ g ++ (chars ++ rest)) × IsGap syn p g (chars ++ rest)
    × IsToken syn (chars ++ rest) k (length chars) × (IsTooLong syn (chars ++ rest) → ⊥) × (place ≡ at + width g) × AreItems syn Between rest (place + width chars) more

-- the numbers are below 110000
abbrev pub AreChars : List ℕ → Type 0
AreChars [] = Unit {0}
AreChars (c ∷ text) = (c < 0x110000) × AreChars text
