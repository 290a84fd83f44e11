-- The order of lists.
use Rattle.std.proofs.Common.{ℕ, List, [], ◌∷◌, ◌++◌, ◌<◌, arith, inl, inr, refl, subst, ap, sym, ◌∙◌}
use Rattle.std.proofs.lemmas.List.{length_push}
use Rattle.order_laws.specs.Lists.{IsLexicographicallyLess, IsLess, IsAtMost}

lex_trans : (a b c : List ℕ) → IsLexicographicallyLess a b → IsLexicographicallyLess b c → IsLexicographicallyLess a c
lex_trans [] b c h k = absurd h
lex_trans (x ∷ xs) [] c h k = absurd h
lex_trans (x ∷ xs) (y ∷ ys) [] h k = absurd k
lex_trans (x ∷ xs) (y ∷ ys) (z ∷ zs) (inl h) (inl k) = inl (omega arith)
lex_trans (x ∷ xs) (y ∷ ys) (z ∷ zs) (inl h) (inr k) = inl (omega (arith, k.0))
lex_trans (x ∷ xs) (y ∷ ys) (z ∷ zs) (inr h) (inl k) = inl (omega (arith, h.0))
lex_trans (x ∷ xs) (y ∷ ys) (z ∷ zs) (inr h) (inr k) = inr (h.0 ∙ k.0, lex_trans xs ys zs h.1 k.1)

lex_push : (a b : List ℕ) (m n : ℕ) → IsLexicographicallyLess a b → IsLexicographicallyLess (a ++ m ∷ []) (b ++ n ∷ [])
lex_push [] b m n h = absurd h
lex_push (x ∷ xs) [] m n h = absurd h
lex_push (x ∷ xs) (y ∷ ys) m n (inl h) = inl h
lex_push (x ∷ xs) (y ∷ ys) m n (inr h) = inr (h.0, lex_push xs ys m n h.1)

lex_last : (a : List ℕ) (m n : ℕ) → m < n → IsLexicographicallyLess (a ++ m ∷ []) (a ++ n ∷ [])
lex_last [] m n h = inl h
lex_last (x ∷ xs) m n h = inr (refl, lex_last xs m n h)

pub less_trans : (a b c : List ℕ) → IsLess a b → IsLess b c → IsLess a c
less_trans a b c (inl h) (inl k) = inl (omega arith)
less_trans a b c (inl h) (inr k) = inl (omega (arith, k.0))
less_trans a b c (inr h) (inl k) = inl (omega (arith, h.0))
less_trans a b c (inr h) (inr k) = inr (h.0 ∙ k.0, lex_trans a b c h.1 k.1)

pub most_trans : (a b c : List ℕ) → IsAtMost a b → IsAtMost b c → IsAtMost a c
most_trans a b c (inl e) k = let P : List ℕ → Type 0 = λ z. IsAtMost z c in subst P (sym e) k
most_trans a b c (inr h) (inl e) = let P : List ℕ → Type 0 = λ z. IsAtMost a z in subst P e (inr h)
most_trans a b c (inr h) (inr k) = inr (less_trans a b c h k)

pub less_push : (a b : List ℕ) (m n : ℕ) → IsLess a b → IsLess (a ++ m ∷ []) (b ++ n ∷ [])
less_push a b m n (inl h) = inl (omega (arith, length_push a m, length_push b n))
less_push a b m n (inr h) = inr (omega (arith, length_push a m, length_push b n, h.0), lex_push a b m n h.1)

pub less_last : (a : List ℕ) (m n : ℕ) → m < n → IsLess (a ++ m ∷ []) (a ++ n ∷ [])
less_last a m n h = inr (omega (arith, length_push a m, length_push a n), lex_last a m n h)

pub most_push : (a b : List ℕ) (n : ℕ) → IsAtMost a b → IsAtMost (a ++ n ∷ []) (b ++ n ∷ [])
most_push a b n (inl e) = inl (ap (λ (z : List ℕ). z ++ n ∷ []) e)
most_push a b n (inr h) = inr (less_push a b n n h)
