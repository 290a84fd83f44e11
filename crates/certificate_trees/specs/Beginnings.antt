-- Where a text ceases to begin one of a form.
use Rattle.std.specs.Prelude.{⊤, ◌≡◌, ◌==◌, ◌≤◌, ◌+◌, ◌⊎◌, ℕ, cond, Option, Some, None, List, [], ◌∷◌, ◌++◌, slice_get}
use Rattle.certificate_trees.specs.declared.refusals.CertRefusal.{CertRefusal}
use Rattle.certificate_trees.specs.declared.refusals.CertRefusal.TheVariants.{K1, K2, K3, K4, K5, K6, Memory}
use Rattle.certificate_trees.specs.Reads.{IsRead}

-- a form is the set of its texts: those of one form and then of another
pub record Then (T U : List ℕ → Type 0) (p : List ℕ) : Type 0 where
  pub first : List ℕ
  pub second : List ℕ
  pub split : p ≡ first ++ second
  pub one : T first
  pub two : U second

abbrev pub Word : List ℕ → List ℕ → Type 0
Word w p = p ≡ w

abbrev pub Either : (List ℕ → Type 0) → (List ℕ → Type 0) → List ℕ → Type 0
Either T U p = T p ⊎ U p

-- some text of the form begins so
abbrev pub Begins : (List ℕ → Type 0) → List ℕ → Type 0
Begins T p = (rest : List ℕ) × T (p ++ rest)

-- from a place to another stands a text of the form, and with the next byte it begins none
pub record IsWhole (T : List ℕ → Type 0) (text : List ℕ) (at to : ℕ) : Type 0 where
  pub piece : List ℕ
  pub read : IsRead text at to piece
  pub whole : T piece
  pub further : (c : ℕ) → slice_get text to ≡ Some c → Begins T (piece ++ c ∷ []) → ⊥

-- what stands from a place up to k begins a text of the form and has none in front; with the next byte it begins none
pub record IsStopped (T : List ℕ → Type 0) (text : List ℕ) (at k : ℕ) : Type 0 where
  pub piece : List ℕ
  pub read : IsRead text at k piece
  pub begins : Begins T piece
  pub unfinished : (p q : List ℕ) → piece ≡ p ++ q → T p → ⊥
  pub further : (c : ℕ) → slice_get text k ≡ Some c → Begins T (piece ++ c ∷ []) → ⊥

-- how often a byte stands in a text
abbrev pub count : ℕ → List ℕ → ℕ
count b [] = 0
count b (c ∷ p) = cond (c == b) 1 0 + count b p

-- a parenthesis opens at k where so many stand open, and up to and with it a text of the form begins
pub record IsTooDeep (T : List ℕ → Type 0) (depth : ℕ) (text : List ℕ) (at k : ℕ) : Type 0 where
  pub piece : List ℕ
  pub read : IsRead text at k piece
  pub begins : Begins T (piece ++ 40 ∷ [])
  pub opens : slice_get text k ≡ Some 40
  pub stand : count 40 piece ≡ count 41 piece + depth

-- the same, where so many may stand open; None for forms without parentheses
abbrev pub IsTooDeepFor : (List ℕ → Type 0) → Option ℕ → List ℕ → ℕ → ℕ → Type 0
IsTooDeepFor T None text at k = ⊥
IsTooDeepFor T (Some depth) text at k = IsTooDeep T depth text at k

-- why no text of the form is read at a place
abbrev pub IsRefused : (List ℕ → Type 0) → Option ℕ → List ℕ → ℕ → CertRefusal → Type 0
IsRefused T depth text at (K1 k) = IsStopped T text at k
IsRefused T depth text at (K2 k) = IsTooDeepFor T depth text at k
IsRefused T depth text at (K3 k) = ⊥
IsRefused T depth text at (K4 k) = ⊥
IsRefused T depth text at (K5 k) = ⊥
IsRefused T depth text at (K6 k) = ⊥
IsRefused T depth text at Memory = ⊤

-- at no place up to another stand more than so many parentheses open
abbrev pub IsShallow : ℕ → List ℕ → ℕ → ℕ → Type 0
IsShallow depth text at to = (k : ℕ) (piece : List ℕ) → k ≤ to → IsRead text at k piece → count 40 piece ≤ count 41 piece + depth

-- the same up to the place of a refusal
abbrev pub IsShallowTill : ℕ → List ℕ → ℕ → CertRefusal → Type 0
IsShallowTill depth text at (K1 k) = IsShallow depth text at k
IsShallowTill depth text at (K2 k) = IsShallow depth text at k
IsShallowTill depth text at (K3 k) = ⊤
IsShallowTill depth text at (K4 k) = ⊤
IsShallowTill depth text at (K5 k) = ⊤
IsShallowTill depth text at (K6 k) = ⊤
IsShallowTill depth text at Memory = ⊤

-- the first byte, if any, is one of these
abbrev pub HeadIn : (ℕ → Type 0) → List ℕ → Type 0
HeadIn D [] = ⊥
HeadIn D (c ∷ p) = D c

abbrev pub NoByte : ℕ → Type 0
NoByte c = ⊥

abbrev pub IsDigit : ℕ → Type 0
IsDigit c = (48 ≤ c) × (c ≤ 57)

-- the form has a text, its texts are longer or shorter by such bytes only, and each parenthesis closes
pub record IsForm (T : List ℕ → Type 0) (D : ℕ → Type 0) : Type 0 where
  pub live : Begins T []
  pub settles : (p q b c : List ℕ) → T p → T q → p ++ b ≡ q ++ c → ((p ≡ q) × (b ≡ c)) ⊎ (HeadIn D b ⊎ HeadIn D c)
  pub closed : (p : List ℕ) → T p → count 40 p ≡ count 41 p

-- leaves of trees: they end before what is no digit, and begin with another letter than `w` and `j`
pub record AreLeaves (L : List ℕ → Type 0) : Type 0 where
  pub form : IsForm L IsDigit
  pub some : L [] → ⊥
  pub other : (c : ℕ) (p : List ℕ) → L (c ∷ p) → (c ≡ 119 → ⊥) × (c ≡ 106 → ⊥)
