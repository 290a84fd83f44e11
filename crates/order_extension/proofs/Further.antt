-- Further orders keep what every set keeps, and a placing satisfies both lists.
use Rattle.std.proofs.Common.{◌≡◌, ℕ, ℤ, List, ◌++◌, ◌+◌, ◌-◌, ◌<◌, length, arith, inl, inr, refl, subst, ap, ◌∙◌, length-append}
use Rattle.std.specs.Prelude.{◌↔◌}
use Rattle.std.proofs.lemmas.Bool.{cases_lt}
use Rattle.std.proofs.lemmas.List.{get_or_append_left, get_or-append_right, get_or-append-add}
use Rattle.order_laws.specs.declared.Order.{Order}
use Rattle.order_laws.specs.declared.Position.{Position}
use Rattle.order_laws.specs.Chains.{order_at, no_order}
use Rattle.order_laws.specs.Placings.{IsSatisfied, position_at}
use Rattle.order_laws.specs.Positions.{Stand}
use Rattle.order_laws.specs.Tables.{IsPoint, IsOrderSet}
use Rattle.order_core.specs.Sets.{AreInRange}

-- what holds of each order of two lists holds of each order of the joined list
pub each_joined : (P : Order → Type 0) (xs ys : List Order) →
    ((n : ℕ) → n < length xs → P (order_at xs n)) → ((n : ℕ) → n < length ys → P (order_at ys n)) →
    (n : ℕ) → n < length (xs ++ ys) → P (order_at (xs ++ ys) n)
each_joined P xs ys a b n h =
    elim (cases_lt n (length xs)) [
      | inl lt ↦ rw (get_or_append_left xs ys no_order n lt) (a n lt)
      | inr ge ↦ rw (get_or-append_right xs ys (length xs) n no_order refl ge) (b (n - length xs) (omega (arith, length-append xs ys)))
    ]

pub kept_left : (xs ys : List Order) (n : ℕ) → n < length xs → order_at (xs ++ ys) n ≡ order_at xs n
kept_left xs ys n h = get_or_append_left xs ys no_order n h

pub further_is_set : (extents : ℕ) (dates : List ℤ) (list more : List Order) →
    IsOrderSet list extents dates → AreInRange extents (length dates) more → IsOrderSet (list ++ more) extents dates
further_is_set extents dates list more s range = record {
  low_in_range = each_joined (λ (o : Order). IsPoint extents (length dates) o.low) list more s.low_in_range range.low;
  high_in_range = each_joined (λ (o : Order). IsPoint extents (length dates) o.high) list more s.high_in_range range.high;
  ascending = s.ascending;
  neighbours = λ k h. let f = s.neighbours k h in let is : order_at (list ++ more) f.0 ≡ order_at list f.0 = kept_left list more f.0 f.1.0 in
      (f.0, (omega (arith, f.1.0, length-append list more), ap (λ (o : Order). o.low) is ∙ f.1.1, ap (λ (o : Order). o.high) is ∙ f.1.2, ap (λ (o : Order). o.strict) is ∙ f.1.3));
  starts_before_ends = λ k h. let f = s.starts_before_ends k h in let is : order_at (list ++ more) f.0 ≡ order_at list f.0 = kept_left list more f.0 f.1.0 in
      (f.0, (omega (arith, f.1.0, length-append list more), ap (λ (o : Order). o.low) is ∙ f.1.1, ap (λ (o : Order). o.high) is ∙ f.1.2, ap (λ (o : Order). o.strict) is ∙ f.1.3));
}

module _ (dates : List ℤ) (placing : List Position) where
  abbrev pub Stands : Order → Type 0
  Stands o = Stand o.strict (position_at dates placing o.low) (position_at dates placing o.high)

  pub satisfied_both : (orders more : List Order) →
      IsSatisfied (orders ++ more) dates placing ↔ (IsSatisfied orders dates placing × IsSatisfied more dates placing)
  satisfied_both orders more = (
    (λ h. (
      (λ n lt. subst Stands (kept_left orders more n lt) (h n (omega (arith, length-append orders more)))),
      (λ n lt. subst Stands (get_or-append-add orders more n no_order) (h (length orders + n) (omega (arith, length-append orders more)))),
    )),
    (λ h. each_joined Stands orders more h.0 h.1),
  )
