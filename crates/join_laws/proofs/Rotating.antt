-- Numbers from a base on: so many and then so many others change places.
use Rattle.std.proofs.Common.{◌≡◌, ℕ, ◌+◌, ◌-◌, ◌<◌, ◌≤◌, inl, inr, cond, ap, ◌∙◌, arith, lt-ltb, le-ltb}
use Rattle.std.specs.Prelude.{nat_lt}
use Rattle.std.proofs.lemmas.Bool.{cond-true, cond-false, cases_lt}

-- p numbers from the base on go behind the q that follow them
abbrev pub rotated : ℕ → ℕ → ℕ → ℕ → ℕ
rotated base p q n = cond (nat_lt n base) n (cond (nat_lt n (base + p)) (n + q) (cond (nat_lt n (base + p + q)) (n - p) n))

module _ (base p q n : ℕ) where
  pub rotated_low : n < base → rotated base p q n ≡ n
  rotated_low lt = cond-true (nat_lt n base) _ _ (lt-ltb n base lt)

  from_base : base ≤ n → rotated base p q n ≡ cond (nat_lt n (base + p)) (n + q) (cond (nat_lt n (base + p + q)) (n - p) n)
  from_base le = cond-false (nat_lt n base) _ _ (le-ltb n base le)

  pub rotated_first : base ≤ n → n < base + p → rotated base p q n ≡ n + q
  rotated_first le lt = from_base le ∙ cond-true (nat_lt n (base + p)) _ _ (lt-ltb n (base + p) lt)

  from_second : base + p ≤ n → rotated base p q n ≡ cond (nat_lt n (base + p + q)) (n - p) n
  from_second le = from_base (omega (arith, le)) ∙ cond-false (nat_lt n (base + p)) _ _ (le-ltb n (base + p) le)

  pub rotated_second : base + p ≤ n → n < base + p + q → rotated base p q n ≡ n - p
  rotated_second le lt = from_second le ∙ cond-true (nat_lt n (base + p + q)) _ _ (lt-ltb n (base + p + q) lt)

  pub rotated_past : base + p + q ≤ n → rotated base p q n ≡ n
  rotated_past le = from_second (omega (arith, le)) ∙ cond-false (nat_lt n (base + p + q)) _ _ (le-ltb n (base + p + q) le)

-- and back
pub rotated_back : (base p q n : ℕ) → rotated base q p (rotated base p q n) ≡ n
rotated_back base p q n = elim (cases_lt n base) [
  | inl low ↦ ap (rotated base q p) (rotated_low base p q n low) ∙ rotated_low base q p n low
  | inr from ↦ elim (cases_lt n (base + p)) [
    | inl one ↦
        ap (rotated base q p) (rotated_first base p q n from one)
        ∙ rotated_second base q p (n + q) (omega (arith, from)) (omega (arith, one)) ∙ (let there : n + q - q ≡ n = omega arith in there)
    | inr behind ↦ elim (cases_lt n (base + p + q)) [
      | inl two ↦
          ap (rotated base q p) (rotated_second base p q n behind two)
          ∙ rotated_first base q p (n - p) (omega (arith, behind)) (omega (arith, two, behind)) ∙ (let there : n - p + p ≡ n = omega (arith, behind) in there)
      | inr past ↦ ap (rotated base q p) (rotated_past base p q n past) ∙ rotated_past base q p n (omega (arith, past))
    ]
  ]
]
