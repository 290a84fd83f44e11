-- Sets of texts as data: a class of characters, one after another, a choice, any number. A text is a list of numbers.
use Rattle.std.specs.Prelude.{ℕ, List, [], ◌∷◌, ◌++◌, ◌≡◌, Bool, true, false, ◌&&◌, ◌||◌, nat_le, ◌⊎◌}

-- A class is a list of ranges, both ends included.
abbrev pub within : List (ℕ × ℕ) → ℕ → Bool
within [] c = false
within (r ∷ rs) c = (nat_le r.0 c && nat_le c r.1) || within rs c

pub data Pattern : Type 0 where
  Never : Pattern
  Nothing : Pattern
  One : List (ℕ × ℕ) → Pattern
  Then : Pattern → Pattern → Pattern
  Either : Pattern → Pattern → Pattern
  Many : Pattern → Pattern

abbrev pub Each : (List ℕ → Type 0) → List (List ℕ) → Type 0
Each P [] = Unit {0}
Each P (x ∷ xs) = P x × Each P xs

abbrev pub joined : List (List ℕ) → List ℕ
joined [] = []
joined (x ∷ xs) = x ++ joined xs

-- The text is one of the pattern's.
abbrev pub Matches : Pattern → List ℕ → Type 0
Matches Never s = ⊥
Matches Nothing s = s ≡ []
Matches (One rs) s = (c : ℕ) × (s ≡ c ∷ []) × (within rs c ≡ true)
Matches (Then p q) s = (a : List ℕ) × (b : List ℕ) × (s ≡ a ++ b) × Matches p a × Matches q b
Matches (Either p q) s = Matches p s ⊎ Matches q s
Matches (Many p) s = (parts : List (List ℕ)) × (s ≡ joined parts) × Each (Matches p) parts

-- The text begins one of the pattern's.
abbrev pub Begins : Pattern → List ℕ → Type 0
Begins p s = (more : List ℕ) × Matches p (s ++ more)

-- Patterns are written as a grammar is.
infixr 20 ◌then◌
abbrev pub ◌then◌ : Pattern → Pattern → Pattern
p then q = Then p q

infixr 15 ◌or◌
abbrev pub ◌or◌ : Pattern → Pattern → Pattern
p or q = Either p q

abbrev pub char : ℕ → Pattern
char c = One ((c, c) ∷ [])

abbrev pub optional : Pattern → Pattern
optional p = Nothing or p

abbrev pub some_of : Pattern → Pattern
some_of p = p then Many p
