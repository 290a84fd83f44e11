-- The forms of trees.
use Rattle.std.specs.Prelude.{◌≡◌, ℕ, Some, List, [], ◌∷◌, ◌++◌, slice_get}
use Rattle.certificate_trees.specs.declared.refusals.CertRefusal.{CertRefusal}
use Rattle.certificate_trees.specs.declared.refusals.CertRefusal.TheVariants.{K1, K2, K3, K4, K5, K6, Memory}
use Rattle.certificate_trees.specs.Beginnings.{Then, Word, IsStopped}

-- a leaf by its text, `w( )`, `j( , )`
pub data Shape : Type 0 where
  Tip : List ℕ → Shape
  Weak : Shape → Shape
  Both : Shape → Shape → Shape

abbrev pub spelled : Shape → List ℕ
spelled (Tip w) = w
spelled (Weak x) = 119 ∷ 40 ∷ (spelled x ++ 41 ∷ [])
spelled (Both x y) = 106 ∷ 40 ∷ (spelled x ++ 44 ∷ (spelled y ++ 41 ∷ []))

abbrev pub HasLeaves : (List ℕ → Type 0) → Shape → Type 0
HasLeaves L (Tip w) = L w
HasLeaves L (Weak x) = HasLeaves L x
HasLeaves L (Both x y) = HasLeaves L x × HasLeaves L y

-- the trees over leaves of a form
abbrev pub Tree : (List ℕ → Type 0) → List ℕ → Type 0
Tree L p = (x : Shape) × (HasLeaves L x × (p ≡ spelled x))

-- what stands behind `w` and behind `j`
abbrev pub WeakRest : (List ℕ → Type 0) → List ℕ → Type 0
WeakRest L = Then (Word (40 ∷ [])) (Then (Tree L) (Word (41 ∷ [])))

abbrev pub BothRest : (List ℕ → Type 0) → List ℕ → Type 0
BothRest L = Then (Word (40 ∷ [])) (Then (Tree L) (Then (Word (44 ∷ [])) (Then (Tree L) (Word (41 ∷ [])))))

-- no parenthesis opens at a place: another byte stands there, or no more may stand open
abbrev pub IsUnopened : ℕ → List ℕ → ℕ → CertRefusal → Type 0
IsUnopened depth text at (K1 k) = IsStopped (Word (40 ∷ [])) text at k
IsUnopened depth text at (K2 k) = (k ≡ at) × ((depth ≡ 0) × (slice_get text at ≡ Some 40))
IsUnopened depth text at (K3 k) = ⊥
IsUnopened depth text at (K4 k) = ⊥
IsUnopened depth text at (K5 k) = ⊥
IsUnopened depth text at (K6 k) = ⊥
IsUnopened depth text at Memory = ⊥
