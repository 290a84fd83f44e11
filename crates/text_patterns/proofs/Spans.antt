-- A range of characters between two edges of all classes: each behaves as any other.
use Rattle.std.proofs.Common.{ℕ, zero, suc, List, [], ◌∷◌, ◌≡◌, ◌<◌, ◌≤◌, ◌+◌, refl, ap₂, ◌∙◌, arith, inl, inr, subst}
use Rattle.std.proofs.lemmas.Bool.{false≢true, and_parts, eqb-true, cases_lt}
use Rattle.std.proofs.lemmas.Bool.Decides.{nat_tests}
use Rattle.std.specs.Prelude.{Bool, true, false, ◌&&◌, ◌||◌, nat_le, nat_lt, ◌==◌}
use mathlib.Core.Bool.{beq}
use Rattle.text_patterns.specs.Patterns.{within, Pattern}
use Rattle.text_patterns.specs.Patterns.Pattern.{Never, Nothing, One, Then, Either, Many}
use Rattle.text_patterns.specs.Derivatives.{SameIn}

pub beq-true : (a b : Bool) → beq a b ≡ true → a ≡ b
beq-true true true h = refl
beq-true false false h = refl
beq-true true false h = absurd (false≢true h)
beq-true false true h = absurd (false≢true h)

abbrev pub no_edge : List (ℕ × ℕ) → ℕ → ℕ → Bool
no_edge [] lo hi = true
no_edge (r ∷ rs) lo hi = (nat_lt hi r.0 || (nat_lt r.1 lo || (nat_le r.0 lo && nat_le hi r.1))) && no_edge rs lo hi

one_range : (a b lo hi c : ℕ) → (nat_lt hi a || (nat_lt b lo || (nat_le a lo && nat_le hi b))) ≡ true → lo ≤ c → c ≤ hi
    → (nat_le a c && nat_le c b) ≡ (nat_le a lo && nat_le lo b)
one_range a b lo hi c h p q = grind (arith, nat_tests)

pub steady : (rs : List (ℕ × ℕ)) (lo hi c : ℕ) → no_edge rs lo hi ≡ true → lo ≤ c → c ≤ hi → within rs c ≡ within rs lo
steady [] lo hi c h p q = refl
steady (r ∷ rs) lo hi c h p q =
    let both = and_parts (nat_lt hi r.0 || (nat_lt r.1 lo || (nat_le r.0 lo && nat_le hi r.1))) (no_edge rs lo hi) h in
    ap₂ (λ x y. x || y) (one_range r.0 r.1 lo hi c both.0 p q) (steady rs lo hi c both.1 p q)

abbrev pub same_over : Pattern → ℕ → ℕ → ℕ → Bool
same_over Never lo hi d = true
same_over Nothing lo hi d = true
same_over (One rs) lo hi d = no_edge rs lo hi && beq (within rs lo) (within rs d)
same_over (Then p q) lo hi d = same_over p lo hi d && same_over q lo hi d
same_over (Either p q) lo hi d = same_over p lo hi d && same_over q lo hi d
same_over (Many p) lo hi d = same_over p lo hi d

pub same_over-true : (p : Pattern) (lo hi d c : ℕ) → same_over p lo hi d ≡ true → lo ≤ c → c ≤ hi → SameIn p c d
same_over-true Never lo hi d c h a b = tt
same_over-true Nothing lo hi d c h a b = tt
same_over-true (One rs) lo hi d c h a b = let both = and_parts (no_edge rs lo hi) (beq (within rs lo) (within rs d)) h in
    steady rs lo hi c both.0 a b ∙ beq-true (within rs lo) (within rs d) both.1
same_over-true (Then p q) lo hi d c h a b = let both = and_parts (same_over p lo hi d) (same_over q lo hi d) h in
    (same_over-true p lo hi d c both.0 a b, same_over-true q lo hi d c both.1 a b)
same_over-true (Either p q) lo hi d c h a b = let both = and_parts (same_over p lo hi d) (same_over q lo hi d) h in
    (same_over-true p lo hi d c both.0 a b, same_over-true q lo hi d c both.1 a b)
same_over-true (Many p) lo hi d c h a b = same_over-true p lo hi d c h a b

-- below 128: each character is computed
abbrev pub all_below : ℕ → (ℕ → Bool) → Bool
all_below zero f = true
all_below (suc n) f = f n && all_below n f

pub below_at : (n : ℕ) (f : ℕ → Bool) (c : ℕ) → all_below n f ≡ true → c < n → f c ≡ true
below_at zero f c h lt = absurd (omega arith)
below_at (suc n) f c h lt = let both = and_parts (f n) (all_below n f) h in
    elim (cases_lt c n) [ inl x ↦ below_at n f c both.1 x | inr x ↦ let e : n ≡ c = omega arith in subst (λ y. f y ≡ true) e both.0 ]

-- the ranges follow one another from the first character up to the last of all
abbrev pub covers : ℕ → List (ℕ × ℕ) → Bool
covers lo [] = lo == 0x110000
covers lo (s ∷ ss) = (s.0 == lo) && covers (s.1 + 1) ss

abbrev pub all : {A : Type 0} → (A → Bool) → List A → Bool
all f [] = true
all f (x ∷ xs) = f x && all f xs

abbrev pub AllTrue : {A : Type 0} → (A → Bool) → List A → Type 0
AllTrue f [] = Unit {0}
AllTrue f (x ∷ xs) = (f x ≡ true) × AllTrue f xs

pub all_parts : {A : Type 0} (f : A → Bool) (xs : List A) → all f xs ≡ true → AllTrue f xs
all_parts f [] h = tt
all_parts f (x ∷ xs) h = let both = and_parts (f x) (all f xs) h in (both.0, all_parts f xs both.1)

-- the range in which a character lies, and a test that all of them pass
pub span_of : (f : (ℕ × ℕ) → Bool) (ss : List (ℕ × ℕ)) (lo c : ℕ) → covers lo ss ≡ true → all f ss ≡ true → lo ≤ c → c < 0x110000
    → (s : ℕ × ℕ) × (s.0 ≤ c) × (c ≤ s.1) × (f s ≡ true)
span_of f [] lo c cov fit a b = let e = eqb-true lo 0x110000 cov in absurd (omega arith)
span_of f (s ∷ ss) lo c cov fit a b =
    let cov2 = and_parts (s.0 == lo) (covers (s.1 + 1) ss) cov in
    let fit2 = and_parts (f s) (all f ss) fit in
    let e = eqb-true s.0 lo cov2.0 in
    elim (cases_lt s.1 c) [ inl x ↦ span_of f ss (s.1 + 1) c cov2.1 fit2.1 (omega arith) b | inr x ↦ (s, omega arith, x, fit2.0) ]
