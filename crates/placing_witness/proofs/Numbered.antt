-- Each point of the list of all points stands at its number.
use Rattle.std.proofs.Common.{zero, suc, ◌≡◌, ℕ, List, [], ◌∷◌, ◌+◌, ◌-◌, ◌*◌, ◌<◌, length, get_or, arith, inl, inr, refl, ap, ◌∙◌}
use Rattle.std.proofs.lemmas.Bool.{cases_lt}
use Rattle.std.proofs.lemmas.List.{get_or_append_left, get_or-append_right}
use Rattle.order_laws.specs.declared.Point.{Point}
use Rattle.order_laws.specs.declared.Point.TheVariants.{Start, End, Date}
use Rattle.order_laws.specs.Points.{number_of}
use Rattle.order_laws.specs.Tables.{boundaries, date_points, all_points}
use Rattle.order_laws.proofs.Members.{length-boundaries}
use Rattle.placing_witness.proofs.InRange.{length_points, length_dates}

module _ (extents : ℕ) (d : Point) where
  pair_number : (k n : ℕ) → n < 2 → number_of extents (get_or (Start k ∷ End k ∷ []) n d) ≡ 2 * k + n
  pair_number k zero h = omega arith
  pair_number k (suc zero) h = refl
  pair_number k (suc (suc n)) h = absurd (omega arith)

  boundary_number : (k n : ℕ) → n < 2 * k → number_of extents (get_or (boundaries k) n d) ≡ n
  boundary_number zero n h = absurd (omega arith)
  boundary_number (suc k) n h =
      elim (cases_lt n (2 * k)) [
        | inl low ↦
            ap (number_of extents) (get_or_append_left (boundaries k) (Start k ∷ End k ∷ []) d n (omega (arith, length-boundaries k, low)))
            ∙ boundary_number k n low
        | inr high ↦
            ap (number_of extents) (get_or-append_right (boundaries k) (Start k ∷ End k ∷ []) (2 * k) n d (length-boundaries k) high)
            ∙ omega (arith, high, pair_number k (n - 2 * k) (omega arith))
      ]

  date_number : (k n : ℕ) → n < k → number_of extents (get_or (date_points k) n d) ≡ 2 * extents + n
  date_number zero n h = absurd (omega arith)
  date_number (suc k) n h =
      elim (cases_lt n k) [
        | inl low ↦
            ap (number_of extents) (get_or_append_left (date_points k) (Date k ∷ []) d n (omega (arith, length_dates k, low))) ∙ date_number k n low
        | inr high ↦
            (let last : n - k ≡ 0 = omega arith in
            ap (number_of extents) (get_or-append_right (date_points k) (Date k ∷ []) k n d (length_dates k) high)
            ∙ ap (λ m. number_of extents (get_or (Date k ∷ []) m d)) last ∙ omega (arith, high))
      ]

  pub number_at : (points : List Point) (dates n : ℕ) → points ≡ all_points extents dates → n < length points → number_of extents (get_or points n d) ≡ n
  number_at points dates n listed h =
      ap (λ ps. number_of extents (get_or ps n d)) listed
      ∙ elim (cases_lt n (2 * extents)) [
        | inl low ↦
            ap (number_of extents) (get_or_append_left (boundaries extents) (date_points dates) d n (omega (arith, length-boundaries extents, low)))
            ∙ boundary_number extents n low
        | inr high ↦
            ap (number_of extents) (get_or-append_right (boundaries extents) (date_points dates) (2 * extents) n d (length-boundaries extents) high)
            ∙ omega (arith, high, date_number dates (n - 2 * extents) (omega (arith, length_points points extents dates listed)))
      ]
