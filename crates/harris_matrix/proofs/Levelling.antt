-- Cells by the number of cells before each, and their levels.
use Rattle.std.proofs.Common.{arith, zero, suc, ◌≡◌, ◌≢◌, ◌<◌, ◌≤◌, ◌+◌, ◌⊎◌, inl, inr, ℕ, Bool, true, false, List, [], ◌∷◌, length, get_or, set, refl, sym, ap, subst, get_or-set_other, get_or-set_same, length-set}
use Rattle.std.proofs.lemmas.Bool.{cases_Bool, cases_eq, cases_lt}
use Rattle.harris_matrix.specs.Levels.{LeadsBack, IsLevel, AreLevels, IsOrdering, count_below, above_all}
use Rattle.harris_matrix.specs.Rows.{IsStrictOrder}

count_at_most : (n : ℕ) (s t : ℕ → Bool) → ((k : ℕ) → k < n → s k ≡ true → t k ≡ true) → count_below n s ≤ count_below n t
count_at_most zero s t h = omega arith
count_at_most (suc n) s t h =
    let less = count_at_most n s t (λ k l. h k (omega arith)) in
    elim (cases_Bool (s n)) [
      | inl yea ↦ rw (yea, h n (omega arith) yea) (omega (arith, less))
      | inr nay ↦ rw nay (omega (arith, less))
    ]

pub count_less : (n : ℕ) (s t : ℕ → Bool) → ((k : ℕ) → k < n → s k ≡ true → t k ≡ true) →
    (k : ℕ) → k < n → s k ≡ false → t k ≡ true → count_below n s < count_below n t
count_less zero s t h k within nay yea = absurd (omega arith)
count_less (suc n) s t h k within nay yea = elim (cases_eq k n) [
  | inl last ↦ (let P : ℕ → Type 0 = λ m. s m ≡ false in let Q : ℕ → Type 0 = λ m. t m ≡ true in
      rw (subst P last nay, subst Q last yea) (omega (arith, count_at_most n s t (λ k l. h k (omega arith)))))
  | inr other ↦ (let less = count_less n s t (λ k l. h k (omega arith)) k (omega arith) nay yea in
      elim (cases_Bool (s n)) [
        | inl here ↦ rw (here, h n (omega arith) here) (omega (arith, less))
        | inr gone ↦ rw gone (omega (arith, less))
      ])
]

count_all : (n : ℕ) (t : ℕ → Bool) → count_below n t ≤ n
count_all zero t = omega arith
count_all (suc n) t = elim (cases_Bool (t n)) [
  | inl yea ↦ rw yea (omega (arith, count_all n t))
  | inr nay ↦ rw nay (omega (arith, count_all n t))
]

count_not_all : (n : ℕ) (t : ℕ → Bool) (k : ℕ) → k < n → t k ≡ false → count_below n t < n
count_not_all zero t k h e = absurd (omega arith)
count_not_all (suc n) t k h e = elim (cases_eq k n) [
  | inl last ↦ (let P : ℕ → Type 0 = λ m. t m ≡ false in rw (subst P last e) (omega (arith, count_all n t)))
  | inr other ↦ (let less = count_not_all n t k (omega arith) e in
      elim (cases_Bool (t n)) [
        | inl yea ↦ rw yea (omega (arith, less))
        | inr nay ↦ rw nay (omega (arith, less))
      ])
]

above_at_most : (n : ℕ) (test : ℕ → Bool) (levels : List ℕ) (b : ℕ) →
    ((k : ℕ) → k < n → test k ≡ true → get_or levels k 0 + 1 ≤ b) → above_all n test levels ≤ b
above_at_most zero test levels b h = omega arith
above_at_most (suc n) test levels b h =
    let less = above_at_most n test levels b (λ k l. h k (omega arith)) in
    elim (cases_Bool (test n)) [
      | inl yea ↦ rw yea (omega (arith, less, h n (omega arith) yea))
      | inr nay ↦ rw nay (omega (arith, less))
    ]

above_at_least : (n : ℕ) (test : ℕ → Bool) (levels : List ℕ) (k : ℕ) → k < n → test k ≡ true → get_or levels k 0 + 1 ≤ above_all n test levels
above_at_least zero test levels k h e = absurd (omega arith)
above_at_least (suc n) test levels k h e = elim (cases_eq k n) [
  | inl last ↦ (let P : ℕ → Type 0 = λ m. test m ≡ true in rw (subst P last e, last) (omega arith))
  | inr other ↦ omega (arith, above_at_least n test levels k (omega arith) e)
]

above_found : (n : ℕ) (test : ℕ → Bool) (levels : List ℕ) →
    (above_all n test levels ≡ 0) ⊎ ((k : ℕ) × ((k < n) × ((test k ≡ true) × (above_all n test levels ≡ get_or levels k 0 + 1))))
above_found zero test levels = inl refl
above_found (suc n) test levels = elim (cases_Bool (test n)) [
  | inr nay ↦ elim (above_found n test levels) [
    | inl none ↦ inl (rw (nay, none) refl)
    | inr k ↦ inr (k.0, (omega (arith, k.1.0), (k.1.1.0, rw nay (omega (arith, k.1.1.1)))))
  ]
  | inl yea ↦ elim (cases_lt (above_all n test levels) (get_or levels n 0 + 1)) [
    | inl more ↦ inr (n, (omega arith, (yea, rw yea (omega arith))))
    | inr less ↦ elim (above_found n test levels) [
      | inl none ↦ absurd (omega (arith, none))
      | inr k ↦ inr (k.0, (omega (arith, k.1.0), (k.1.1.0, rw yea (omega (arith, k.1.1.1)))))
    ]
  ]
]

-- a cell that is before another stands ahead of it
pub behind : (before : ℕ → ℕ → Bool) (n : ℕ) (cells : List ℕ) → IsOrdering before n cells → (p k : ℕ) → p < length cells → k < n →
    before k (get_or cells p 0) ≡ true → (q : ℕ) × ((q < p) × (get_or cells q 0 ≡ k))
behind before n cells ordering p k h l e =
    let q = ordering.whole k l in
    let P : ℕ → Type 0 = λ x. before x (get_or cells p 0) ≡ true in
    (q.0, (ordering.ahead q.0 p q.1.0 h (subst P (sym q.1.1) e), q.1.1))

-- the first p cells have their levels
pub record IsLevelled (before : ℕ → ℕ → Bool) (n : ℕ) (cells : List ℕ) (p : ℕ) (levels : List ℕ) : Type 0 where
  pub size : length levels ≡ n
  pub bounded : (k : ℕ) → k < n → get_or levels k 0 ≤ count_below n (λ m. before m k)
  pub done : (q : ℕ) → q < p → IsLevel before n (get_or cells q 0) (get_or levels (get_or cells q 0) 0)

pub levelled_begins : (before : ℕ → ℕ → Bool) (n : ℕ) (cells levels : List ℕ) → length levels ≡ n →
    ((k : ℕ) → k < n → get_or levels k 0 ≡ 0) → IsLevelled before n cells 0 levels
levelled_begins before n cells levels size none = record {
  size = size;
  bounded = λ k h. omega (arith, none k h);
  done = λ q h. absurd (omega arith);
}

module _ (before : ℕ → ℕ → Bool) (n : ℕ) (orderly : IsStrictOrder before n) where
  pub rank_grows : (k j : ℕ) → k < n → j < n → before k j ≡ true → count_below n (λ m. before m k) < count_below n (λ m. before m j)
  rank_grows k j h l e =
      count_less n (λ m. before m k) (λ m. before m j) (λ m w f. orderly.joins m k j w h l f e) k h (orderly.never k h) e

  pub low : (cells : List ℕ) (p : ℕ) (levels : List ℕ) → IsLevelled before n cells p levels → (k : ℕ) → k < n → get_or levels k 0 < n
  low cells p levels m k h = omega (arith, m.bounded k h, count_not_all n (λ m. before m k) k h (orderly.never k h))

  pub levelled_more : (cells : List ℕ) (p : ℕ) (levels : List ℕ) → IsOrdering before n cells → p < length cells → IsLevelled before n cells p levels →
      IsLevelled before n cells (p + 1) (set levels (get_or cells p 0) (above_all n (λ k. before k (get_or cells p 0)) levels))
  levelled_more cells p levels ordering within m = record {
    size = size;
    bounded = bounded;
    done = done;
  }
    where
      j : ℕ
      j = get_or cells p 0

      level : ℕ
      level = above_all n (λ k. before k j) levels

      j_within : j < n
      j_within = ordering.in_range p within

      at : j < length levels
      at = omega (arith, m.size, ordering.in_range p within)

      size : length (set levels j level) ≡ n
      size = simp length-set m.size

      each : (k : ℕ) → k < n → before k j ≡ true → IsLevel before n k (get_or levels k 0)
      each k h e = (let q = behind before n cells ordering p k within h e in
          let P : ℕ → Type 0 = λ x. IsLevel before n x (get_or levels x 0) in
          subst P q.1.1 (m.done q.0 q.1.0))

      bounded : (k : ℕ) → k < n → get_or (set levels j level) k 0 ≤ count_below n (λ m. before m k)
      bounded k h = elim (cases_eq k j) [
        | inl same ↦ (let P : ℕ → Type 0 = λ x. get_or (set levels j level) x 0 ≤ count_below n (λ m. before m x) in
            subst P (sym same) (let lt : j < length levels = at in
            rw get_or-set_same (above_at_most n (λ k. before k j) levels (count_below n (λ m. before m j))
            (λ k h e. omega (arith, m.bounded k h, rank_grows k j h j_within e)))))
        | inr other ↦ (let ne : k ≢ j = other in rw get_or-set_other (m.bounded k h))
      ]

      greatest : (ks : List ℕ) → LeadsBack before n j ks → length ks ≤ level
      greatest [] leads = omega arith
      greatest (k ∷ ks) leads = omega (arith, (each k leads.0 leads.1).greatest ks leads.2, above_at_least n (λ k. before k j) levels k leads.0 leads.1)

      here : IsLevel before n j level
      here = elim (above_found n (λ k. before k j) levels) [
        | inl none ↦ record { cells = []; lead_back = tt; reached = sym none; greatest = greatest }
        | inr k ↦ (let e = each k.0 k.1.0 k.1.1.0 in record {
          cells = k.0 ∷ e.cells;
          lead_back = (k.1.0, k.1.1.0, e.lead_back);
          reached = omega (arith, e.reached, k.1.1.1);
          greatest = greatest;
        })
      ]

      done : (q : ℕ) → q < p + 1 → IsLevel before n (get_or cells q 0) (get_or (set levels j level) (get_or cells q 0) 0)
      done q h = elim (cases_eq (get_or cells q 0) j) [
        | inl same ↦ (let P : ℕ → Type 0 = λ x. IsLevel before n x (get_or (set levels j level) x 0) in
            subst P (sym same) (let lt : j < length levels = at in rw get_or-set_same here))
        | inr other ↦ elim (cases_eq q p) [
          | inl last ↦ absurd (other (ap (λ x. get_or cells x 0) last))
          | inr less ↦ (let ne : get_or cells q 0 ≢ j = other in rw get_or-set_other (m.done q (omega arith)))
        ]
      ]

  pub levelled_ends : (cells levels : List ℕ) → IsOrdering before n cells → IsLevelled before n cells (length cells) levels → AreLevels before n levels
  levelled_ends cells levels ordering m = record {
    size = m.size;
    each = λ j h. (let p = ordering.whole j h in
        let P : ℕ → Type 0 = λ x. IsLevel before n x (get_or levels x 0) in
        subst P p.1.1 (m.done p.0 p.1.0));
  }
