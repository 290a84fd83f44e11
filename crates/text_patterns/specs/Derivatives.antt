-- What a pattern still wants behind a character, and tests of patterns that can be computed.
use Rattle.std.specs.Prelude.{ℕ, List, [], ◌∷◌, ◌++◌, ◌≡◌, Bool, true, false, cond, ◌&&◌, ◌||◌, nat_le, ◌==◌, not}
use Rattle.text_patterns.specs.Patterns.{within, Pattern}
use Rattle.text_patterns.specs.Patterns.Pattern.{Never, Nothing, One, Then, Either, Many}

abbrev pub is_never : Pattern → Bool
is_never Never = true
is_never _ = false

abbrev pub is_nothing : Pattern → Bool
is_nothing Nothing = true
is_nothing _ = false

abbrev pub then_of : Pattern → Pattern → Pattern
then_of p q = cond (is_never p) Never (cond (is_nothing p) q (Then p q))

abbrev pub either_of : Pattern → Pattern → Pattern
either_of p q = cond (is_never p) q (cond (is_never q) p (Either p q))

-- The empty text is one of the pattern's.
abbrev pub nullable : Pattern → Bool
nullable Never = false
nullable Nothing = true
nullable (One rs) = false
nullable (Then p q) = nullable p && nullable q
nullable (Either p q) = nullable p || nullable q
nullable (Many p) = true

-- The texts that complete the character to one of the pattern's.
abbrev pub derivative : Pattern → ℕ → Pattern
derivative Never c = Never
derivative Nothing c = Never
derivative (One rs) c = cond (within rs c) Nothing Never
derivative (Then p q) c = either_of (then_of (derivative p c) q) (cond (nullable p) (derivative q c) Never)
derivative (Either p q) c = either_of (derivative p c) (derivative q c)
derivative (Many p) c = then_of (derivative p c) (Many p)

-- The texts that complete the text to one of the pattern's.
abbrev pub after : Pattern → List ℕ → Pattern
after p [] = p
after p (c ∷ s) = after (derivative p c) s

-- No text at all is one of the pattern's.
abbrev pub is_barren : Pattern → Bool
is_barren Never = true
is_barren Nothing = false
is_barren (One []) = true
is_barren (One (r ∷ rs)) = not (nat_le r.0 r.1) && is_barren (One rs)
is_barren (Then p q) = is_barren p || is_barren q
is_barren (Either p q) = is_barren p && is_barren q
is_barren (Many p) = false

-- No text but the empty one is one of the pattern's.
abbrev pub is_shut : Pattern → Bool
is_shut p = is_never p || is_nothing p

abbrev pub eq_ranges : List (ℕ × ℕ) → List (ℕ × ℕ) → Bool
eq_ranges [] [] = true
eq_ranges (r ∷ rs) (q ∷ qs) = (r.0 == q.0) && ((r.1 == q.1) && eq_ranges rs qs)
eq_ranges _ _ = false

abbrev pub eq_pattern : Pattern → Pattern → Bool
eq_pattern Never Never = true
eq_pattern Nothing Nothing = true
eq_pattern (One rs) (One qs) = eq_ranges rs qs
eq_pattern (Then p q) (Then r s) = eq_pattern p r && eq_pattern q s
eq_pattern (Either p q) (Either r s) = eq_pattern p r && eq_pattern q s
eq_pattern (Many p) (Many q) = eq_pattern p q
eq_pattern _ _ = false

abbrev pub alternatives : Pattern → List Pattern
alternatives (Either p q) = alternatives p ++ alternatives q
alternatives Never = []
alternatives p = p ∷ []

abbrev pub is_one_of : Pattern → List Pattern → Bool
is_one_of p [] = false
is_one_of p (q ∷ qs) = eq_pattern p q || is_one_of p qs

abbrev pub are_among : List Pattern → List Pattern → Bool
are_among [] qs = true
are_among (p ∷ ps) qs = is_one_of p qs && are_among ps qs

-- The two are choices of the same patterns.
abbrev pub alike : Pattern → Pattern → Bool
alike p q = are_among (alternatives p) (alternatives q) && are_among (alternatives q) (alternatives p)

-- No class of the pattern tells the two characters apart.
abbrev pub SameIn : Pattern → ℕ → ℕ → Type 0
SameIn Never c d = Unit {0}
SameIn Nothing c d = Unit {0}
SameIn (One rs) c d = within rs c ≡ within rs d
SameIn (Then p q) c d = SameIn p c d × SameIn q c d
SameIn (Either p q) c d = SameIn p c d × SameIn q c d
SameIn (Many p) c d = SameIn p c d
