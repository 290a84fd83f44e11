-- The levels of cells, as they are computed.
use Rattle.std.proofs.Common.{arith, zero, suc, ◌≡◌, ◌<◌, ◌≤◌, ◌+◌, ◌⊎◌, inl, inr, ℕ, Bool, true, List, [], ◌∷◌, length, refl, sym, subst}
use Rattle.std.proofs.lemmas.Bool.{cases_Bool, cases_eq, cases_lt}
use Rattle.harris_matrix.specs.Levels.{LeadsBack, IsLevel, count_below}
use Rattle.harris_matrix.specs.Rows.{IsStrictOrder}
use Rattle.harris_matrix.proofs.Levelling.{rank_grows}
use Rattle.crm_matrix.specs.MatrixTexts.{above, height_within, level_of}

above_at_least : (n : ℕ) (test : ℕ → Bool) (height : ℕ → ℕ) (k : ℕ) → k < n → test k ≡ true → height k + 1 ≤ above n test height
above_at_least zero test height k h e = absurd (omega arith)
above_at_least (suc n) test height k h e = elim (cases_eq k n) [
  | inl last ↦ (let P : ℕ → Type 0 = λ m. test m ≡ true in rw (subst P last e, last) (omega arith))
  | inr other ↦ omega (arith, above_at_least n test height k (omega arith) e)
]

above_found : (n : ℕ) (test : ℕ → Bool) (height : ℕ → ℕ) →
    (above n test height ≡ 0) ⊎ ((k : ℕ) × ((k < n) × ((test k ≡ true) × (above n test height ≡ height k + 1))))
above_found zero test height = inl refl
above_found (suc n) test height = elim (cases_Bool (test n)) [
  | inr nay ↦ elim (above_found n test height) [
    | inl none ↦ inl (rw (nay, none) refl)
    | inr k ↦ inr (k.0, (omega (arith, k.1.0), (k.1.1.0, rw nay (omega (arith, k.1.1.1)))))
  ]
  | inl yea ↦ elim (cases_lt (above n test height) (height n + 1)) [
    | inl more ↦ inr (n, (omega arith, (yea, rw yea (omega arith))))
    | inr less ↦ elim (above_found n test height) [
      | inl none ↦ absurd (omega (arith, none))
      | inr k ↦ inr (k.0, (omega (arith, k.1.0), (k.1.1.0, rw yea (omega (arith, k.1.1.1)))))
    ]
  ]
]

module _ (before : ℕ → ℕ → Bool) (count : ℕ) where
  -- some list is as long as the height
  height_reached : (n j : ℕ) → (ks : List ℕ) × (LeadsBack before count j ks × (length ks ≡ height_within before count n j))
  height_reached zero j = ([], (tt, refl))
  height_reached (suc n) j = elim (above_found count (λ k. before k j) (height_within before count n)) [
    | inl none ↦ ([], (tt, sym none))
    | inr k ↦ (let ks = height_reached n k.0 in
        (k.0 ∷ ks.0, ((k.1.0, k.1.1.0, ks.1.0), omega (arith, ks.1.1, k.1.1.1))))
  ]

  -- no list of at most so many cells is longer
  height_bounds : (n j : ℕ) (ks : List ℕ) → LeadsBack before count j ks → length ks ≤ n → length ks ≤ height_within before count n j
  height_bounds n j [] leads le = omega arith
  height_bounds zero j (k ∷ ks) leads le = absurd (omega arith)
  height_bounds (suc n) j (k ∷ ks) leads le =
      omega (arith, height_bounds n k ks leads.2 (omega arith), above_at_least count (λ m. before m j) (height_within before count n) k leads.0 leads.1)

count_all : (n : ℕ) (t : ℕ → Bool) → count_below n t ≤ n
count_all zero t = omega arith
count_all (suc n) t = elim (cases_Bool (t n)) [
  | inl yea ↦ rw yea (omega (arith, count_all n t))
  | inr nay ↦ rw nay (omega (arith, count_all n t))
]

module _ (before : ℕ → ℕ → Bool) (count : ℕ) (orderly : IsStrictOrder before count) where
  -- no list is longer than the number of cells that are before its end
  few_lead_back : (j : ℕ) → j < count → (ks : List ℕ) → LeadsBack before count j ks → length ks ≤ count_below count (λ m. before m j)
  few_lead_back j h [] leads = omega arith
  few_lead_back j h (k ∷ ks) leads = omega (arith, few_lead_back k leads.0 ks leads.2, rank_grows before count orderly k j leads.0 h leads.1)

  bounded : (j : ℕ) → j < count → (ks : List ℕ) → LeadsBack before count j ks → length ks ≤ level_of before count j
  bounded j h ks leads =
      height_bounds before count count j ks leads (omega (arith, few_lead_back j h ks leads, count_all count (λ m. before m j)))

  pub level_is_greatest : (j : ℕ) → j < count → IsLevel before count j (level_of before count j)
  level_is_greatest j h =
      let r = height_reached before count count j in
      record { cells = r.0; lead_back = r.1.0; reached = r.1.1; greatest = bounded j h }

  pub level_is_unique : (j level : ℕ) → j < count → IsLevel before count j level → level ≡ level_of before count j
  level_is_unique j level h is =
      let r = height_reached before count count j in
      omega (arith, is.reached, is.greatest r.0 r.1.0, r.1.1, bounded j h is.cells is.lead_back)
