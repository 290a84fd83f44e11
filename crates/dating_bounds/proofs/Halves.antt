-- The dates that are known to be at or before a point are the first ones, and those that it is known to be at or before the last.
use Rattle.std.proofs.Common.{zero, suc, ◌≡◌, ℕ, ℤ, List, Bool, true, false, ◌+◌, ◌<◌, ◌≤◌, length, arith, inl, inr, refl, subst, sym, ◌∙◌, add-one}
use Rattle.std.proofs.lemmas.Bool.{cases_Bool, cases_eq, true≢false}
use Rattle.order_laws.specs.declared.Order.{Order}
use Rattle.order_laws.specs.declared.Point.{Point}
use Rattle.order_laws.specs.declared.Point.TheVariants.{Date}
use Rattle.order_laws.specs.declared.Reach.{Reach}
use Rattle.order_laws.specs.Chains.{order_at}
use Rattle.order_laws.specs.Tables.{is_known, is_strict, IsPoint, floor_of, IsOrderSet, IsOrderly}
use Rattle.order_laws.proofs.LawD.{known_of_strict}
use Rattle.dating_bounds.specs.Around.{ceiling_of}

pub is_false : (b : Bool) → (b ≡ true → ⊥) → b ≡ false
is_false true h = absurd (h refl)
is_false false h = refl

module _ (table : Point → Point → Reach) (p : Point) where
  pub floor_is : (dates n : ℕ) → n ≤ dates → ((k : ℕ) → k < n → is_known (table (Date k) p) ≡ true) →
      ((k : ℕ) → n ≤ k → k < dates → is_known (table (Date k) p) ≡ false) → floor_of table dates p ≡ n
  floor_is zero n h below above = omega arith
  floor_is (suc d) n h below above =
      elim (cases_eq n (suc d)) [
        | inl all ↦ (let e : is_known (table (Date d) p) ≡ true = below d (omega arith) in rw e (sym all))
        | inr some ↦ (let e : is_known (table (Date d) p) ≡ false = above d (omega arith) (omega arith) in
            rw e (floor_is d n (omega arith) below (λ k a b. above k a (omega arith))))
      ]

  pub ceiling_is : (dates n : ℕ) → n ≤ dates → ((k : ℕ) → k < n → is_known (table p (Date k)) ≡ false) →
      ((k : ℕ) → n ≤ k → k < dates → is_known (table p (Date k)) ≡ true) → ceiling_of table dates p ≡ n
  ceiling_is zero n h below above = omega arith
  ceiling_is (suc d) n h below above =
      elim (cases_eq n (suc d)) [
        | inl all ↦ (let e : is_known (table p (Date d)) ≡ false = below d (omega arith) in rw e (sym all))
        | inr some ↦ (let e : is_known (table p (Date d)) ≡ true = above d (omega arith) (omega arith) in
            rw e (ceiling_is d n (omega arith) below (λ k a b. above k a (omega arith))))
      ]

  pub ceiling_below : (n : ℕ) → ceiling_of table n p ≤ n
  ceiling_below zero = omega arith
  ceiling_below (suc n) = grind (arith, ceiling_below n)

  -- a date at a ceiling is known, and one just below it is not
  pub ceiling_known : (n k : ℕ) → ceiling_of table n p ≤ k → k < n → is_known (table p (Date k)) ≡ true
  ceiling_known zero k h l = absurd (omega arith)
  ceiling_known (suc n) k h l =
      elim (cases_Bool (is_known (table p (Date n)))) [
        | inl e ↦ elim (cases_eq k n) [
          | inl same ↦ (let P : ℕ → Type 0 = λ j. is_known (table p (Date j)) ≡ true in subst P (sym same) e)
          | inr other ↦ ceiling_known n k (rw e at h) (omega arith)
        ]
        | inr e ↦ (let h' : suc n ≤ k = (rw e at h) in absurd (omega arith))
      ]

  pub ceiling_unknown : (n k : ℕ) → ceiling_of table n p ≡ suc k → is_known (table p (Date k)) ≡ false
  ceiling_unknown zero k h = absurd (omega arith)
  ceiling_unknown (suc n) k h =
      elim (cases_Bool (is_known (table p (Date n)))) [
        | inl e ↦ ceiling_unknown n k (rw e at h)
        | inr e ↦ (let h' : suc n ≡ suc k = (rw e at h) in let same : n ≡ k = omega arith in
            let P : ℕ → Type 0 = λ j. is_known (table p (Date j)) ≡ false in subst P same e)
      ]

module _ (orders : List Order) (extents : ℕ) (dates : List ℤ) (table : Point → Point → Reach)
    (set : IsOrderSet orders extents dates) (good : IsOrderly orders extents (length dates) table) where
  neighbour_before : (k : ℕ) → k + 1 < length dates → is_strict (table (Date k) (Date (k + 1))) ≡ true
  neighbour_before k h =
      let m = set.neighbours k h in
      let P : Point → Type 0 = λ z. is_strict (table z (Date (k + 1))) ≡ true in
      let Q : Point → Type 0 = λ z. is_strict (table (order_at orders m.0).low z) ≡ true in
      subst P m.1.1 (subst Q m.1.2 (good.keeps_strictly m.0 m.1.0 m.1.3))

  -- any date is known to be before each later one
  pub date_before : (j k : ℕ) → j < k → k < length dates → is_strict (table (Date j) (Date k)) ≡ true
  date_before j zero h l = absurd (omega arith)
  date_before j (suc k) h l =
      let step : is_strict (table (Date k) (Date (suc k))) ≡ true = (rw add-one at (neighbour_before k (omega arith))) in
      elim (cases_eq j k) [
        | inl same ↦ (let P : ℕ → Type 0 = λ i. is_strict (table (Date i) (Date (suc k))) ≡ true in subst P (sym same) step)
        | inr other ↦
            (let before : is_strict (table (Date j) (Date k)) ≡ true = date_before j k (omega arith) (omega arith) in
            good.joins_strictly (Date j) (Date k) (Date (suc k)) (omega arith) (omega arith) l
            (known_of_strict _ before) (known_of_strict _ step) (rw before refl))
      ]

  pub earlier_known : (p : Point) → IsPoint extents (length dates) p → (j k : ℕ) → j ≤ k → k < length dates →
      is_known (table (Date k) p) ≡ true → is_known (table (Date j) p) ≡ true
  earlier_known p in_p j k h l known =
      elim (cases_eq j k) [
        | inl same ↦ (let P : ℕ → Type 0 = λ i. is_known (table (Date i) p) ≡ true in subst P (sym same) known)
        | inr other ↦ good.joins (Date j) (Date k) p (omega arith) l in_p (known_of_strict _ (date_before j k (omega arith) l)) known
      ]

  pub earlier_strict : (p : Point) → IsPoint extents (length dates) p → (j k : ℕ) → j < k → k < length dates →
      is_known (table (Date k) p) ≡ true → is_strict (table (Date j) p) ≡ true
  earlier_strict p in_p j k h l known =
      (let before : is_strict (table (Date j) (Date k)) ≡ true = date_before j k h l in
      good.joins_strictly (Date j) (Date k) p (omega arith) l in_p (known_of_strict _ before) known (rw before refl))

  pub later_known : (p : Point) → IsPoint extents (length dates) p → (j k : ℕ) → j ≤ k → k < length dates →
      is_known (table p (Date j)) ≡ true → is_known (table p (Date k)) ≡ true
  later_known p in_p j k h l known =
      elim (cases_eq j k) [
        | inl same ↦ (let P : ℕ → Type 0 = λ i. is_known (table p (Date i)) ≡ true in subst P same known)
        | inr other ↦ good.joins p (Date j) (Date k) in_p (omega arith) l known (known_of_strict _ (date_before j k (omega arith) l))
      ]

  pub known_so_far : (p : Point) → IsPoint extents (length dates) p → (middle : ℕ) → middle < length dates → is_known (table (Date middle) p) ≡ true →
      (k : ℕ) → k < middle + 1 → is_known (table (Date k) p) ≡ true
  known_so_far p in_p middle l known k h = earlier_known p in_p k middle (omega arith) l known

  pub unknown_from : (p : Point) → IsPoint extents (length dates) p → (middle : ℕ) → is_known (table (Date middle) p) ≡ false →
      (k : ℕ) → middle ≤ k → k < length dates → is_known (table (Date k) p) ≡ false
  unknown_from p in_p middle unknown k h l = is_false _ (λ e. true≢false (sym (earlier_known p in_p middle k h l e) ∙ unknown))

  pub unknown_so_far : (p : Point) → IsPoint extents (length dates) p → (middle : ℕ) → middle < length dates → is_known (table p (Date middle)) ≡ false →
      (k : ℕ) → k < middle + 1 → is_known (table p (Date k)) ≡ false
  unknown_so_far p in_p middle l unknown k h = is_false _ (λ e. true≢false (sym (later_known p in_p k middle (omega arith) l e) ∙ unknown))

  pub known_from : (p : Point) → IsPoint extents (length dates) p → (middle : ℕ) → is_known (table p (Date middle)) ≡ true →
      (k : ℕ) → middle ≤ k → k < length dates → is_known (table p (Date k)) ≡ true
  known_from p in_p middle known k h l = later_known p in_p middle k h l known
