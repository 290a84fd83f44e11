-- A list, by the item at an index.
use Rattle.std.proofs.Common.{◌≡◌, ℕ, ◌+◌, ◌<◌, List, [], ◌∷◌, ◌++◌, take, drop, length, Some, None, slice_get, refl, ap, arith, suc, zero}

-- an index within a list has an item
pub within : {X : Type 0} (xs : List X) (k : ℕ) → k < length xs → None ≡ slice_get xs k → ⊥
within [] k lt h = omega arith
within (x ∷ xs) zero lt h = cc
within (x ∷ xs) (suc k) lt h = within xs k (omega arith) h

-- one more item
pub take_one : {X : Type 0} (xs : List X) (i : ℕ) (x : X) → Some x ≡ slice_get xs i → take (i + 1) xs ≡ take i xs ++ x ∷ []
take_one [] i x h = cc
take_one (y ∷ ys) zero x h = cc
take_one (y ∷ ys) (suc i) x h = let e : suc i + 1 ≡ suc (i + 1) = omega arith in rw e (ap (λ l. y ∷ l) (take_one ys i x h))

-- the rest from an item on
pub drop_one : {X : Type 0} (xs : List X) (i : ℕ) (x : X) → Some x ≡ slice_get xs i → drop i xs ≡ x ∷ drop (i + 1) xs
drop_one [] i x h = cc
drop_one (y ∷ ys) zero x h = let e : x ≡ y = cc in rw e refl
drop_one (y ∷ ys) (suc i) x h = let e : suc i + 1 ≡ suc (i + 1) = omega arith in rw e (drop_one ys i x h)

-- as many items stand in front as the index says
pub front_length : {X : Type 0} (xs : List X) (k : ℕ) (x : X) → Some x ≡ slice_get xs k → length (take k xs) ≡ k
front_length [] k x h = cc
front_length (y ∷ ys) zero x h = refl
front_length (y ∷ ys) (suc k) x h = ap suc (front_length ys k x h)
