-- The placing built over an orderly table satisfies the orders.
use Rattle.std.proofs.Common.{zero, suc, ◌≡◌, ℕ, List, [], ◌∷◌, Bool, true, false, ◌<◌, ◌≤◌, arith, inl, inr, refl, subst, sym, ◌∙◌}
use Rattle.std.specs.Prelude.{◌⊎◌}
use Rattle.std.proofs.lemmas.Bool.{cases_Bool, cases_eq, true≢false}
use Rattle.order_laws.specs.declared.Point.{Point}
use Rattle.order_laws.specs.declared.Point.TheVariants.{Date}
use Rattle.order_laws.specs.declared.Reach.{Reach}
use Rattle.order_laws.specs.Tables.{is_known, floor_of, count_where}

module _ (table : Point → Point → Reach) where
  pub floor_below : (n : ℕ) (p : Point) → floor_of table n p ≤ n
  floor_below zero p = omega arith
  floor_below (suc n) p = grind (arith, floor_below n p)

  pub floor_known : (n : ℕ) (p : Point) (k : ℕ) → floor_of table n p ≡ suc k → is_known (table (Date k) p) ≡ true
  floor_known zero p k h = grind arith
  floor_known (suc n) p k h =
      elim (cases_Bool (is_known (table (Date n) p))) [
        | inl e ↦ (let same : n ≡ k = grind (arith, e) in let P : ℕ → Type 0 = λ j. is_known (table (Date j) p) ≡ true in subst P same e)
        | inr e ↦ floor_known n p k (rw e at h)
      ]

  pub floor_greatest : (n : ℕ) (p : Point) (k : ℕ) → k < n → is_known (table (Date k) p) ≡ true → k < floor_of table n p
  floor_greatest zero p k h e = omega arith
  floor_greatest (suc n) p k h e =
      elim (cases_Bool (is_known (table (Date n) p))) [
        | inl f ↦ rw f (omega arith)
        | inr f ↦ rw f (elim (cases_eq k n) [
          | inl same ↦ (let P : ℕ → Type 0 = λ j. is_known (table (Date j) p) ≡ true in absurd (true≢false (sym (subst P same e) ∙ f)))
          | inr other ↦ floor_greatest n p k (omega arith) e
        ])
      ]

abbrev pub Among : Point → List Point → Type 0
Among x [] = ⊥
Among x (y ∷ ys) = (x ≡ y) ⊎ Among x ys

pub count_le : (f g : Point → Bool) (xs : List Point) → ((x : Point) → Among x xs → f x ≡ true → g x ≡ true) → count_where f xs ≤ count_where g xs
count_le f g [] h = omega arith
count_le f g (x ∷ xs) h =
    let rest : count_where f xs ≤ count_where g xs = count_le f g xs (λ z a. h z (inr a)) in
    let here : f x ≡ true → g x ≡ true = h x (inl refl) in
    elim (cases_Bool (f x)) [
      | inl e ↦ (let e' : g x ≡ true = here e in rw (e, e') (omega arith))
      | inr e ↦ rw e (elim (cases_Bool (g x)) [ inl k ↦ rw k (omega arith) | inr k ↦ rw k (omega arith) ])
    ]

pub count_lt : (f g : Point → Bool) (y : Point) (xs : List Point) → ((x : Point) → Among x xs → f x ≡ true → g x ≡ true) →
    Among y xs → f y ≡ false → g y ≡ true → count_where f xs < count_where g xs
count_lt f g y [] h a nay yea = absurd a
count_lt f g y (x ∷ xs) h (inl e) nay yea =
    let rest : count_where f xs ≤ count_where g xs = count_le f g xs (λ z a. h z (inr a)) in
    let nay' : f x ≡ false = (let P : Point → Type 0 = λ z. f z ≡ false in subst P e nay) in
    let yea' : g x ≡ true = (let P : Point → Type 0 = λ z. g z ≡ true in subst P e yea) in
    rw (nay', yea') (omega arith)
count_lt f g y (x ∷ xs) h (inr a) nay yea =
    let rest : count_where f xs < count_where g xs = count_lt f g y xs (λ z b. h z (inr b)) a nay yea in
    let here : f x ≡ true → g x ≡ true = h x (inl refl) in
    elim (cases_Bool (f x)) [
      | inl e ↦ (let e' : g x ≡ true = here e in rw (e, e') (omega arith))
      | inr e ↦ rw e (elim (cases_Bool (g x)) [ inl k ↦ rw k (omega arith) | inr k ↦ rw k (omega arith) ])
    ]
