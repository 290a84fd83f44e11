-- Patterns that are alike take the same texts, and characters that no class tells apart have the same derivatives.
use Rattle.std.proofs.Common.{ℕ, List, [], ◌∷◌, ◌++◌, ◌≡◌, refl, ap, ap₂, inl, inr, subst}
use Rattle.std.proofs.lemmas.Bool.{false≢true, and_parts, or_cases, cond_both, eqb-true}
use Rattle.std.specs.Prelude.{true, cond, ◌&&◌, ◌==◌, ◌⊎◌}
use Rattle.text_patterns.specs.Patterns.{within, Pattern, Matches}
use Rattle.text_patterns.specs.Patterns.Pattern.{Never, Nothing, One, Then, Either, Many}
use Rattle.text_patterns.specs.Derivatives.{derivative, nullable, then_of, either_of, is_never, is_nothing, after, eq_ranges, eq_pattern, alternatives, is_one_of, are_among, alike, SameIn}

eq_ranges-true : (rs qs : List (ℕ × ℕ)) → eq_ranges rs qs ≡ true → rs ≡ qs
eq_ranges-true [] [] h = refl
eq_ranges-true (r ∷ rs) (q ∷ qs) h =
    let one = and_parts (r.0 == q.0) ((r.1 == q.1) && eq_ranges rs qs) h in
    let two = and_parts (r.1 == q.1) (eq_ranges rs qs) one.1 in
    ap₂ (λ x xs. x ∷ xs) (ap₂ {A = ℕ} {B = ℕ} {C = ℕ × ℕ} (λ x y. (x, y)) (eqb-true r.0 q.0 one.0) (eqb-true r.1 q.1 two.0)) (eq_ranges-true rs qs two.1)
eq_ranges-true _ _ h = absurd (false≢true h)

pub eq_pattern-true : (p q : Pattern) → eq_pattern p q ≡ true → p ≡ q
eq_pattern-true Never Never h = refl
eq_pattern-true Nothing Nothing h = refl
eq_pattern-true (One rs) (One qs) h = ap One (eq_ranges-true rs qs h)
eq_pattern-true (Then p q) (Then r s) h = let both = and_parts (eq_pattern p r) (eq_pattern q s) h in ap₂ Then (eq_pattern-true p r both.0) (eq_pattern-true q s both.1)
eq_pattern-true (Either p q) (Either r s) h = let both = and_parts (eq_pattern p r) (eq_pattern q s) h in ap₂ Either (eq_pattern-true p r both.0) (eq_pattern-true q s both.1)
eq_pattern-true (Many p) (Many q) h = ap Many (eq_pattern-true p q h)
eq_pattern-true _ _ h = absurd (false≢true h)

abbrev AnyMatches : List Pattern → List ℕ → Type 0
AnyMatches [] s = ⊥
AnyMatches (p ∷ ps) s = Matches p s ⊎ AnyMatches ps s

any_left : (ps qs : List Pattern) (s : List ℕ) → AnyMatches ps s → AnyMatches (ps ++ qs) s
any_left [] qs s m = absurd m
any_left (p ∷ ps) qs s m = elim m [ inl x ↦ inl x | inr x ↦ inr (any_left ps qs s x) ]

any_right : (ps qs : List Pattern) (s : List ℕ) → AnyMatches qs s → AnyMatches (ps ++ qs) s
any_right [] qs s m = m
any_right (p ∷ ps) qs s m = inr (any_right ps qs s m)

any_cases : (ps qs : List Pattern) (s : List ℕ) → AnyMatches (ps ++ qs) s → AnyMatches ps s ⊎ AnyMatches qs s
any_cases [] qs s m = inr m
any_cases (p ∷ ps) qs s m = elim m [ inl x ↦ inl (inl x) | inr x ↦ elim (any_cases ps qs s x) [ inl y ↦ inl (inr y) | inr y ↦ inr y ] ]

spread : (p : Pattern) (s : List ℕ) → Matches p s → AnyMatches (alternatives p) s
spread (Either p q) s m = elim m [ inl x ↦ any_left (alternatives p) (alternatives q) s (spread p s x) | inr x ↦ any_right (alternatives p) (alternatives q) s (spread q s x) ]
spread Never s m = m
spread p s m = inl m

gathered : (p : Pattern) (s : List ℕ) → AnyMatches (alternatives p) s → Matches p s
gathered (Either p q) s m = elim (any_cases (alternatives p) (alternatives q) s m) [ inl x ↦ inl (gathered p s x) | inr x ↦ inr (gathered q s x) ]
gathered Never s m = m
gathered p s m = elim m [ inl x ↦ x | inr x ↦ absurd x ]

one_of-matches : (p : Pattern) (qs : List Pattern) (s : List ℕ) → is_one_of p qs ≡ true → Matches p s → AnyMatches qs s
one_of-matches p [] s h m = absurd (false≢true h)
one_of-matches p (q ∷ qs) s h m = elim (or_cases (eq_pattern p q) (is_one_of p qs) h) [
  | inl x ↦ inl (subst (λ y. Matches y s) (eq_pattern-true p q x) m)
  | inr x ↦ inr (one_of-matches p qs s x m)
]

among-matches : (ps qs : List Pattern) (s : List ℕ) → are_among ps qs ≡ true → AnyMatches ps s → AnyMatches qs s
among-matches [] qs s h m = absurd m
among-matches (p ∷ ps) qs s h m = let both = and_parts (is_one_of p qs) (are_among ps qs) h in
    elim m [ inl x ↦ one_of-matches p qs s both.0 x | inr x ↦ among-matches ps qs s both.1 x ]

pub alike-to : (p q : Pattern) (s : List ℕ) → alike p q ≡ true → Matches p s → Matches q s
alike-to p q s h m = let both = and_parts (are_among (alternatives p) (alternatives q)) (are_among (alternatives q) (alternatives p)) h in
    gathered q s (among-matches (alternatives p) (alternatives q) s both.0 (spread p s m))

pub alike-from : (p q : Pattern) (s : List ℕ) → alike p q ≡ true → Matches q s → Matches p s
alike-from p q s h m = let both = and_parts (are_among (alternatives p) (alternatives q)) (are_among (alternatives q) (alternatives p)) h in
    gathered p s (among-matches (alternatives q) (alternatives p) s both.1 (spread q s m))

pub same-derivative : (p : Pattern) (c d : ℕ) → SameIn p c d → derivative p c ≡ derivative p d
same-derivative Never c d h = refl
same-derivative Nothing c d h = refl
same-derivative (One rs) c d h = ap (λ x. cond x Nothing Never) h
same-derivative (Then p q) c d h = ap₂ (λ x y. either_of (then_of x q) (cond (nullable p) y Never)) (same-derivative p c d h.0) (same-derivative q c d h.1)
same-derivative (Either p q) c d h = ap₂ either_of (same-derivative p c d h.0) (same-derivative q c d h.1)
same-derivative (Many p) c d h = ap (λ x. then_of x (Many p)) (same-derivative p c d h)

same-then_of : (p q : Pattern) (c d : ℕ) → SameIn p c d → SameIn q c d → SameIn (then_of p q) c d
same-then_of p q c d f g = cond_both (is_never p) Never (cond (is_nothing p) q (Then p q)) (λ x. SameIn x c d) (λ e. tt)
    (λ e. cond_both (is_nothing p) q (Then p q) (λ x. SameIn x c d) (λ h. g) (λ h. (f, g)))

same-either_of : (p q : Pattern) (c d : ℕ) → SameIn p c d → SameIn q c d → SameIn (either_of p q) c d
same-either_of p q c d f g = cond_both (is_never p) q (cond (is_never q) p (Either p q)) (λ x. SameIn x c d) (λ e. g)
    (λ e. cond_both (is_never q) p (Either p q) (λ x. SameIn x c d) (λ h. f) (λ h. (f, g)))

pub same-in-derivative : (p : Pattern) (e c d : ℕ) → SameIn p c d → SameIn (derivative p e) c d
same-in-derivative Never e c d h = tt
same-in-derivative Nothing e c d h = tt
same-in-derivative (One rs) e c d h = cond_both (within rs e) Nothing Never (λ x. SameIn x c d) (λ i. tt) (λ i. tt)
same-in-derivative (Then p q) e c d h = same-either_of (then_of (derivative p e) q) (cond (nullable p) (derivative q e) Never) c d
    (same-then_of (derivative p e) q c d (same-in-derivative p e c d h.0) h.1)
    (cond_both (nullable p) (derivative q e) Never (λ x. SameIn x c d) (λ i. same-in-derivative q e c d h.1) (λ i. tt))
same-in-derivative (Either p q) e c d h = same-either_of (derivative p e) (derivative q e) c d (same-in-derivative p e c d h.0) (same-in-derivative q e c d h.1)
same-in-derivative (Many p) e c d h = same-then_of (derivative p e) (Many p) c d (same-in-derivative p e c d h) h

pub same-in-after : (p : Pattern) (s : List ℕ) (c d : ℕ) → SameIn p c d → SameIn (after p s) c d
same-in-after p [] c d h = h
same-in-after p (e ∷ s) c d h = same-in-after (derivative p e) s c d (same-in-derivative p e c d h)
