-- The orders that pass a test, by their numbers among all.
use Rattle.std.proofs.Common.{zero, suc, ◌≡◌, ℕ, List, [], ◌∷◌, Bool, true, ◌<◌, length, arith, inl, inr, refl, subst}
use Rattle.std.specs.List.{filter}
use Rattle.std.proofs.lemmas.Bool.{cases_Bool}
use Rattle.order_laws.specs.declared.Order.{Order}
use Rattle.order_laws.specs.Chains.{order_at}
use Rattle.order_laws.specs.Tables.{IsPoint}
use Rattle.order_core.specs.Sets.{AreInRange}

module _ (p : Order → Bool) where
  -- an order that passes, by its number among all
  pub record Passing (orders : List Order) (order : Order) : Type 0 where
    pub number : ℕ
    pub below : number < length orders
    pub same : order_at orders number ≡ order
    pub passes : p (order_at orders number) ≡ true

  later : (o : Order) (orders : List Order) (order : Order) → Passing orders order → Passing (o ∷ orders) order
  later o orders order a = record { number = suc a.number; below = omega (arith, a.below); same = a.same; passes = a.passes }

  first : (o : Order) (orders : List Order) → p o ≡ true →
      ((k : ℕ) → k < length (filter p orders) → Passing orders (order_at (filter p orders) k)) →
      (k : ℕ) → k < length (o ∷ filter p orders) → Passing (o ∷ orders) (order_at (o ∷ filter p orders) k)
  first o orders holds rest zero h = record { number = 0; below = omega arith; same = refl; passes = holds }
  first o orders holds rest (suc k) h = later o orders (order_at (filter p orders) k) (rest k (omega arith))

  pub passing_from : (orders : List Order) (k : ℕ) → k < length (filter p orders) → Passing orders (order_at (filter p orders) k)
  passing_from [] k h = absurd (omega arith)
  passing_from (o ∷ orders) k h =
      elim (cases_Bool (p o)) [
        | inl holds ↦ rw holds (first o orders holds (passing_from orders) k (rw holds at h))
        | inr other ↦ rw other (later o orders (order_at (filter p orders) k) (passing_from orders k (rw other at h)))
      ]

  pub passing_in_range : (extents dates : ℕ) (orders : List Order) → AreInRange extents dates orders → AreInRange extents dates (filter p orders)
  passing_in_range extents dates orders range = record {
    low = λ n h. (let a = passing_from orders n h in
        let P : Order → Type 0 = λ o. IsPoint extents dates o.low in subst P a.same (range.low a.number a.below));
    high = λ n h. (let a = passing_from orders n h in
        let P : Order → Type 0 = λ o. IsPoint extents dates o.high in subst P a.same (range.high a.number a.below));
  }
