-- The tokens of a text with their characters and places, and how the text stops.
use Rattle.std.specs.Prelude.{ℕ, zero, suc, ◌+◌, ◌-◌, ◌≡◌, List, [], ◌∷◌, ◌++◌, take, ⊤}
use Rattle.std.specs.Char.{len_utf8}
use Rattle.token_scanner.specs.Scanners.{Scanner}
use Rattle.token_scanner.specs.Gaps.{gap_at}
use Rattle.token_scanner.specs.Fronts.{token_of}
use Rattle.token_scanner.specs.declared.front.Front.{Front}
use Rattle.token_scanner.specs.declared.front.Front.TheVariants.{Token, Nothing, Long}
use Rattle.token_scanner.specs.declared.place.Place.{Place}
use Rattle.token_scanner.specs.declared.place.Place.TheVariants.{Between}
use Rattle.token_scanner.specs.declared.place.Gap.{Gap}
use Rattle.token_scanner.specs.declared.place.Gap.TheVariants as gap

pub data Items (Kind : Type 0) : Type 0 where
  Stop : ℕ → Items Kind
  Bad : ℕ → Items Kind
  TooLong : ℕ → Items Kind
  Item : Kind → List ℕ → ℕ → Items Kind → Items Kind

abbrev pub by_front : {Kind : Type 0} → Front Kind → List ℕ → ℕ → (ℕ → Items Kind) → Items Kind
by_front (Token k n) chars at rest = Item k (take n chars) at (rest (n - 1))
by_front Nothing chars at rest = Bad at
by_front Long chars at rest = TooLong at

abbrev pub by_gap : {Kind : Type 0} → Gap → (Place → Items Kind) → Items Kind → Items Kind
by_gap (gap.Skip p) f x = f p
by_gap gap.Token f x = x

-- Behind the next n characters, which are a token's, with the byte offset of the first character.
abbrev pub items : {State Kind : Type 0} → Scanner State Kind → Place → ℕ → List ℕ → ℕ → Items Kind
items syn p n [] at = Stop at
items syn p (suc n) (c ∷ chars) at = items syn p n chars (at + len_utf8 c)
items syn p zero (c ∷ chars) at = by_gap (gap_at syn.lines p c) (λ q. items syn q 0 chars (at + len_utf8 c))
    (by_front (token_of syn (c ∷ chars)) (c ∷ chars) at (λ n. items syn Between n chars (at + len_utf8 c)))

-- the items behind a token of n characters
abbrev pub behind : {State Kind : Type 0} → Scanner State Kind → ℕ → List ℕ → ℕ → Items Kind
behind syn n [] at = Stop at
behind syn n (c ∷ chars) at = items syn Between (n - 1) chars (at + len_utf8 c)

-- what is kept: the characters from the open token on, with the byte offset of the first
pub record Kept : Type 0 where
  pub place : Place
  pub chars : List ℕ
  pub at : ℕ

-- the items of what is kept and these characters behind it
abbrev pub items_of : {State Kind : Type 0} → Scanner State Kind → Kept → List ℕ → Items Kind
items_of syn k more = items syn k.place 0 (k.chars ++ more) k.at

abbrev pub TokenFirst : {State Kind : Type 0} → Scanner State Kind → Place → List ℕ → Type 0
TokenFirst syn p [] = ⊤
TokenFirst syn p (c ∷ chars) = gap_at syn.lines p c ≡ gap.Token

-- the items of a text at whose front this stands
abbrev pub front_items : {State Kind : Type 0} → Scanner State Kind → Front Kind → List ℕ → ℕ → Items Kind
front_items syn f [] at = Stop at
front_items syn f (c ∷ chars) at = by_front f (c ∷ chars) at (λ n. items syn Between n chars (at + len_utf8 c))

-- the items behind a token of n characters at the front
abbrev pub items_behind : {State Kind : Type 0} → Scanner State Kind → ℕ → Kept → List ℕ → Items Kind
items_behind syn n k more = behind syn n (k.chars ++ more) k.at
