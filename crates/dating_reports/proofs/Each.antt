-- Each of the boundaries is one, and each of the periods is an extent.
use Rattle.std.proofs.Common.{zero, suc, ◌≡◌, ℕ, List, [], ◌∷◌, ◌++◌, ◌<◌, ◌≤◌, ◌-◌, length, get_or, arith, inl, inr, refl, subst, ap, sym, ◌∙◌, length-append, Some, None, slice_get}
use Rattle.std.specs.Prelude.{Option}
use Rattle.std.specs.List.{All}
use Rattle.std.proofs.lemmas.Bool.{cases_eq, cases_lt}
use Rattle.std.proofs.lemmas.List.{get_or_append_left, get_or-append_right}
use Rattle.std.proofs.lemmas.Option.{get_or_from_slice_get, none-some}
use Rattle.order_laws.specs.declared.Point.{Point}
use Rattle.order_laws.specs.declared.Point.TheVariants.{Start, End, Date}
use Rattle.order_laws.specs.Tables.{IsPoint, boundaries}
use Rattle.order_laws.proofs.Members.{length-boundaries}
use Rattle.order_core.specs.Sets.{AreExtents}
use Rattle.dating_bounds.specs.Around.{IsBoundary}
use Rattle.dating_bounds.proofs.Bounding.{boundary_point}

some_within : {X : Type 0} (xs : List X) (i : ℕ) (x : X) → Some x ≡ slice_get xs i → i < length xs
some_within [] i x h = absurd (none-some x (sym h))
some_within (y ∷ ys) zero x h = omega arith
some_within (y ∷ ys) (suc i) x h = omega (arith, some_within ys i x h)

pair_boundary : (extents k : ℕ) → k < extents → (n : ℕ) (d : Point) → n < 2 → IsBoundary extents (get_or (Start k ∷ End k ∷ []) n d)
pair_boundary extents k h zero d l = h
pair_boundary extents k h (suc zero) d l = h
pair_boundary extents k h (suc (suc n)) d l = absurd (omega arith)

boundary_at : (extents k : ℕ) → k ≤ extents → (n : ℕ) (d : Point) → n < length (boundaries k) → IsBoundary extents (get_or (boundaries k) n d)
boundary_at extents zero h n d l = absurd (omega arith)
boundary_at extents (suc k) h n d l =
    elim (cases_lt n (length (boundaries k))) [
      | inl lt ↦ rw (get_or_append_left (boundaries k) (Start k ∷ End k ∷ []) d n lt) (boundary_at extents k (omega arith) n d lt)
      | inr ge ↦ rw (get_or-append_right (boundaries k) (Start k ∷ End k ∷ []) (length (boundaries k)) n d refl ge)
          (pair_boundary extents k (omega arith) (n - length (boundaries k)) d (omega (arith, length-append (boundaries k) (Start k ∷ End k ∷ []))))
    ]

pub each_boundary : (extents : ℕ) (points : List Point) → points ≡ boundaries extents → (n : ℕ) (p : Point) → Some p ≡ slice_get points n → IsBoundary extents p
each_boundary extents points is n p here =
    let here' : Some p ≡ slice_get (boundaries extents) n = subst (λ (ps : List Point). Some p ≡ slice_get ps n) is here in
    subst (IsBoundary extents) (get_or_from_slice_get (boundaries extents) n p p (sym here'))
    (boundary_at extents extents (omega arith) n p (some_within (boundaries extents) n p here'))

pub each_point : (extents dates : ℕ) (points : List Point) → points ≡ boundaries extents → (n : ℕ) (p : Point) → Some p ≡ slice_get points n → IsPoint extents dates p
each_point extents dates points is n p here = boundary_point extents dates p (each_boundary extents points is n p here)

pub each_extent : (extents : ℕ) (periods : List ℕ) → AreExtents extents periods → (n k : ℕ) → Some k ≡ slice_get periods n → k < extents
each_extent extents periods all n k here =
    subst (λ (m : ℕ). m < extents) (get_or_from_slice_get periods n k k (sym here)) (all n k (some_within periods n k here))
