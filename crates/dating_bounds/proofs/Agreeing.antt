-- What is read from a closure is what follows from the orders.
use Rattle.std.proofs.Common.{zero, suc, ◌≡◌, ℕ, ◌<◌, ◌≤◌, length, arith, inl, inr, refl, ap, ◌∙◌}
use Rattle.std.specs.Prelude.{cond, Option, Some}
use Rattle.std.proofs.lemmas.Bool.{cases_lt, lt-ltb, le-ltb}
use Rattle.order_laws.specs.declared.Point.{Point}
use Rattle.order_laws.specs.declared.Point.TheVariants.{Date}
use Rattle.order_laws.specs.declared.Reach.{Reach}
use Rattle.order_laws.specs.Chains.{HasCycle}
use Rattle.order_laws.specs.Closure.{reach_between}
use Rattle.order_laws.specs.Tables.{is_known, is_strict, IsPoint, floor_of, IsOrderly}
use Rattle.order_laws.proofs.Base.{base_orderly}
use Rattle.order_laws.proofs.Built.{floor_below}
use Rattle.order_laws.proofs.Closure.{one_base}
use Rattle.order_core.specs.Sets.{Orders}
use Rattle.order_closure.specs.Closures.{Closed, IsClosureOf, between}
use Rattle.dating_bounds.specs.declared.extremes.Bound.{Bound}
use Rattle.dating_bounds.specs.declared.extremes.DateBound.{DateBound}
use Rattle.dating_bounds.specs.Around.{ceiling_of, low_at, high_at, bound_of}

module _ (dates : ℕ) (table other : Point → Point → Reach) (p : Point)
    (before : (k : ℕ) → k < dates → table (Date k) p ≡ other (Date k) p) (after : (k : ℕ) → k < dates → table p (Date k) ≡ other p (Date k)) where
  floor_agrees : (n : ℕ) → n ≤ dates → floor_of table n p ≡ floor_of other n p
  floor_agrees zero h = refl
  floor_agrees (suc n) h =
      ap (λ (r : Reach). cond (is_known r) (suc n) (floor_of table n p)) (before n (omega arith))
      ∙ ap (λ m. cond (is_known (other (Date n) p)) (suc n) m) (floor_agrees n (omega arith))

  ceiling_agrees : (n : ℕ) → n ≤ dates → ceiling_of table n p ≡ ceiling_of other n p
  ceiling_agrees zero h = refl
  ceiling_agrees (suc n) h =
      ap (λ (r : Reach). cond (is_known r) (ceiling_of table n p) (suc n)) (after n (omega arith))
      ∙ ap (λ m. cond (is_known (other p (Date n))) m (suc n)) (ceiling_agrees n (omega arith))

  low_agrees : (f : ℕ) → f ≤ dates → low_at table p f ≡ low_at other p f
  low_agrees zero h = refl
  low_agrees (suc k) h = ap {B = Option DateBound} (λ (r : Reach). Some (record { date = k; strict = is_strict r })) (before k (omega arith))

  high_agrees : (c : ℕ) → high_at table dates p c ≡ high_at other dates p c
  high_agrees c =
      elim (cases_lt c dates) [
        | inl lt ↦ rw (lt-ltb c dates lt) (ap {B = Option DateBound} (λ (r : Reach). Some (record { date = c; strict = is_strict r })) (after c lt))
        | inr ge ↦ rw (le-ltb c dates ge) refl
      ]

  pub bounds_agree : (low_at table p (floor_of table dates p) ≡ low_at other p (floor_of other dates p))
      × (high_at table dates p (ceiling_of table dates p) ≡ high_at other dates p (ceiling_of other dates p))
  bounds_agree = (
    low_agrees (floor_of table dates p) (floor_below table dates p) ∙ ap (low_at other p) (floor_agrees dates (omega arith)),
    high_agrees (ceiling_of table dates p) ∙ ap (high_at other dates p) (ceiling_agrees dates (omega arith)),
  )

module _ (set : Orders) (closure : Closed) (closed : IsClosureOf set closure) where
  pub entry_is : (x y : Point) → IsPoint set.extents (length set.dates) x → IsPoint set.extents (length set.dates) y → between closure x y ≡ reach_between set.list x y
  entry_is x y in_x in_y = one_base set.list set.extents (length set.dates) (between closure) closed.base x y in_x in_y

  pub between_orderly : (HasCycle set.list → ⊥) → IsOrderly set.list set.extents (length set.dates) (between closure)
  between_orderly no_cycle =
      base_orderly set.list set.extents (length set.dates) (between closure) closed.of_set.orders.low_in_range closed.of_set.orders.high_in_range no_cycle closed.base

  pub bound_computed : (p : Point) → IsPoint set.extents (length set.dates) p → (low high : Option DateBound) →
      low ≡ low_at (between closure) p (floor_of (between closure) (length set.dates) p) →
      high ≡ high_at (between closure) (length set.dates) p (ceiling_of (between closure) (length set.dates) p) →
      ◌≡◌ {A = Bound} (record { low = low; high = high }) (bound_of set p)
  bound_computed p in_p low high is_low is_high =
      let same = bounds_agree (length set.dates) (between closure) (reach_between set.list) p
      (λ k h. entry_is (Date k) p h in_p) (λ k h. entry_is p (Date k) in_p h) in
      ap {B = Bound} (λ l. record { low = l; high = high }) (is_low ∙ same.0)
      ∙ ap {B = Bound} (λ h. record { low = low_at (reach_between set.list) p (floor_of (reach_between set.list) (length set.dates) p); high = h }) (is_high ∙ same.1)
