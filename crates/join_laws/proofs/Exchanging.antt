-- What relates each list to those with the same elements in another order.
use Rattle.std.proofs.Common.{ℕ, zero, suc, ◌<◌, Option, Some, None, List, [], ◌∷◌, length, get_or, set, sym, subst, arith}
use Rattle.std.specs.List.{swap, filter_map, cons_option}
use Rattle.std.specs.List.Sorted.{IsPermutation}
use Rattle.std.proofs.lemmas.List.Sorted.{IsPermutation-keeps, IsPermutation-refl, IsPermutation-trans, IsPermutation-cons, IsPermutation-middle}
use Rattle.std.proofs.lemmas.List.Edits.{swap_is}

module _ {X : Type 0} (R : List X → List X → Type 0) (same : (xs : List X) → R xs xs) (chained : (xs ys zs : List X) → R xs ys → R ys zs → R xs zs)
    (under : (x : X) (xs ys : List X) → R xs ys → R (x ∷ xs) (x ∷ ys)) (flipped : (x y : X) (zs : List X) → R (x ∷ y ∷ zs) (y ∷ x ∷ zs)) where
  -- the first and another in each other's place
  with_first : (x : X) (xs : List X) (k : ℕ) → k < length xs → R (x ∷ xs) (get_or xs k x ∷ set xs k x)
  with_first x [] k lt = absurd (omega arith)
  with_first x (y ∷ xs) zero lt = flipped x y xs
  with_first x (y ∷ xs) (suc k) lt =
      chained (x ∷ y ∷ xs) (y ∷ x ∷ xs) (get_or xs k x ∷ y ∷ set xs k x) (flipped x y xs)
      (chained (y ∷ x ∷ xs) (y ∷ get_or xs k x ∷ set xs k x) (get_or xs k x ∷ y ∷ set xs k x)
      (under y (x ∷ xs) (get_or xs k x ∷ set xs k x) (with_first x xs k (omega arith))) (flipped y (get_or xs k x) (set xs k x)))

  exchanged : (xs : List X) (i j : ℕ) → i < length xs → j < length xs → R xs (swap xs i j)
  exchanged [] i j a b = absurd (omega arith)
  exchanged (x ∷ xs) zero zero a b = same (x ∷ xs)
  exchanged (x ∷ xs) zero (suc j) a b = with_first x xs j (omega arith)
  exchanged (x ∷ xs) (suc i) zero a b = with_first x xs i (omega arith)
  exchanged (x ∷ xs) (suc i) (suc j) a b =
      subst (λ (ys : List X). R (x ∷ xs) (x ∷ ys)) (sym (swap_is xs i j x (omega arith) (omega arith)))
      (under x xs (swap xs i j) (exchanged xs i j (omega arith) (omega arith)))

  pub related : (xs ys : List X) → IsPermutation xs ys → R xs ys
  related xs ys p = IsPermutation-keeps xs (R xs) (same xs) (λ l i j a b h. chained xs l (swap l i j) h (exchanged l i j a b)) ys p

-- what is got of some of the elements
module _ {X Y : Type 0} (h : X → Option Y) where
  abbrev AlsoGot : List X → List X → Type 0
  AlsoGot xs ys = IsPermutation (filter_map h xs) (filter_map h ys)

  got_under : (x : X) (xs ys : List X) → AlsoGot xs ys → AlsoGot (x ∷ xs) (x ∷ ys)
  got_under x xs ys p = by (h x)
    where
      by : (o : Option Y) → IsPermutation (cons_option o (filter_map h xs)) (cons_option o (filter_map h ys))
      by None = p
      by (Some y) = IsPermutation-cons y (filter_map h xs) (filter_map h ys) p

  got_flipped : (x y : X) (zs : List X) → AlsoGot (x ∷ y ∷ zs) (y ∷ x ∷ zs)
  got_flipped x y zs = by (h x) (h y)
    where
      by : (a b : Option Y) → IsPermutation (cons_option a (cons_option b (filter_map h zs))) (cons_option b (cons_option a (filter_map h zs)))
      by None b = IsPermutation-refl (cons_option b (filter_map h zs))
      by (Some x) None = IsPermutation-refl (x ∷ filter_map h zs)
      by (Some x) (Some y) = IsPermutation-middle (x ∷ []) y (filter_map h zs)

  pub also_got : (xs ys : List X) → IsPermutation xs ys → IsPermutation (filter_map h xs) (filter_map h ys)
  also_got xs ys p =
      related AlsoGot (λ xs. IsPermutation-refl (filter_map h xs)) (λ xs ys zs a b. IsPermutation-trans (filter_map h xs) (filter_map h ys) (filter_map h zs) a b)
      got_under got_flipped xs ys p
