-- A date that is put among ascending dates, and the numbers of the others.
use Rattle.std.proofs.Common.{suc, ◌≡◌, ℕ, ℤ, pos, List, ◌∷◌, ◌++◌, true, false, ◌+◌, ◌-◌, ◌^◌, ◌<◌, ◌≤◌, length, get_or, take, drop, arith, inl, inr, refl, subst, ap, sym, ◌∙◌, length-append}
use Rattle.std.specs.Prelude.{◌<ℤ◌, ◌≤ℤ◌, ◌-ℤ◌, nat_lt, int_le, cond, not}
use Rattle.std.proofs.lemmas.Int.{ints}
use Rattle.std.proofs.lemmas.Bool.{cases_eq, cases_lt, true≢false, lt-ltb, le-ltb}
use Rattle.std.proofs.lemmas.List.{get_or_append_left, get_or-append-add, get_or-take, get_or-drop, length-take-le, length-drop}
use Rattle.std.proofs.lemmas.List.Sums.{fails_before_first, passes_at_first, prefix_len-le-length}
use Rattle.order_laws.specs.declared.Point.{Point}
use Rattle.order_laws.specs.declared.Point.TheVariants.{Start, End, Date}
use Rattle.order_laws.specs.declared.Position.{Position}
use Rattle.order_laws.specs.Placings.{position_at}
use Rattle.order_laws.specs.Tables.{IsPoint}
use Rattle.order_core.specs.Sets.{AreInstants}
use Rattle.dating_bounds.specs.Dated.{place_of, is_dated, moved}

pub le_is : (a b : ℤ) → int_le a b ≡ true → a ≤ℤ b
le_is a b h = grind (arith, ints)

pub not_le : (a b : ℤ) → int_le a b ≡ false → b <ℤ a
not_le a b h = grind (arith, ints)

pub place_within : (dates : List ℤ) (t : ℤ) → place_of dates t ≤ length dates
place_within dates t = prefix_len-le-length (λ d. not (int_le t d)) dates

module _ (dates : List ℤ) (at : ℕ) (t : ℤ) (within : at ≤ length dates) where
  pub length-inserted : length (take at dates ++ t ∷ drop at dates) ≡ length dates + 1
  length-inserted = omega (arith, length-append (take at dates) (t ∷ drop at dates), length-take-le at dates within, length-drop at dates)

  pub inserted_left : (k : ℕ) → k < at → get_or (take at dates ++ t ∷ drop at dates) k (pos 0) ≡ get_or dates k (pos 0)
  inserted_left k h =
      get_or_append_left (take at dates) (t ∷ drop at dates) (pos 0) k (omega (arith, length-take-le at dates within))
      ∙ get_or-take at dates k (pos 0) h

  pub inserted_here : get_or (take at dates ++ t ∷ drop at dates) at (pos 0) ≡ t
  inserted_here =
      let P : ℕ → Type 0 = λ n. get_or (take at dates ++ t ∷ drop at dates) n (pos 0) ≡ t in
      let e : length (take at dates) + 0 ≡ at = omega (arith, length-take-le at dates within) in
      subst P e (get_or-append-add (take at dates) (t ∷ drop at dates) 0 (pos 0))

  pub inserted_right : (k : ℕ) → at ≤ k → get_or (take at dates ++ t ∷ drop at dates) (k + 1) (pos 0) ≡ get_or dates k (pos 0)
  inserted_right k h =
      let P : ℕ → Type 0 = λ n. get_or (take at dates ++ t ∷ drop at dates) n (pos 0) ≡ get_or dates k (pos 0) in
      let e : length (take at dates) + suc (k - at) ≡ k + 1 = omega (arith, length-take-le at dates within) in
      let f : at + (k - at) ≡ k = omega arith in
      subst P e (get_or-append-add (take at dates) (t ∷ drop at dates) (suc (k - at)) (pos 0)
      ∙ (get_or-drop at dates (k - at) (pos 0) ∙ ap (λ n. get_or dates n (pos 0)) f))

  pub inserted_moved : (k : ℕ) → get_or (take at dates ++ t ∷ drop at dates) (cond (nat_lt k at) k (k + 1)) (pos 0) ≡ get_or dates k (pos 0)
  inserted_moved k =
      elim (cases_lt k at) [
        | inl lt ↦ rw (lt-ltb k at lt) (inserted_left k lt)
        | inr ge ↦ rw (le-ltb k at ge) (inserted_right k ge)
      ]

  -- where a point stands by its new name
  pub position_moved : (placing : List Position) (p : Point) →
      position_at (take at dates ++ t ∷ drop at dates) placing (moved at p) ≡ position_at dates placing p
  position_moved placing (Start k) = refl
  position_moved placing (End k) = refl
  position_moved placing (Date k) = ap {B = Position} (λ i. record { instant = i; rank = 0 }) (inserted_moved k)

  pub moved_in_range : (extents : ℕ) (p : Point) → IsPoint extents (length dates) p →
      IsPoint extents (length (take at dates ++ t ∷ drop at dates)) (moved at p)
  moved_in_range extents (Start k) h = h
  moved_in_range extents (End k) h = h
  moved_in_range extents (Date k) h =
      elim (cases_lt k at) [
        | inl lt ↦ rw (lt-ltb k at lt) (omega (arith, length-inserted))
        | inr ge ↦ rw (le-ltb k at ge) (omega (arith, length-inserted))
      ]

  pub inserted_instants : AreInstants dates → (pos 0 -ℤ pos (2 ^ 100)) <ℤ t → t <ℤ pos (2 ^ 100) → AreInstants (take at dates ++ t ∷ drop at dates)
  inserted_instants all after before k h =
      let P : ℤ → Type 0 = λ z. ((pos 0 -ℤ pos (2 ^ 100)) <ℤ z) × (z <ℤ pos (2 ^ 100)) in
      elim (cases_lt k at) [
        | inl lt ↦ subst P (sym (inserted_left k lt)) (all k (omega arith))
        | inr ge ↦ elim (cases_eq k at) [
          | inl same ↦ (let Q : ℕ → Type 0 = λ n. P (get_or (take at dates ++ t ∷ drop at dates) n (pos 0)) in subst Q (sym same) (subst P (sym inserted_here) (after, before)))
          | inr other ↦
              (let e : (k - 1) + 1 ≡ k = omega arith in
              let Q : ℕ → Type 0 = λ n. P (get_or (take at dates ++ t ∷ drop at dates) n (pos 0)) in
              subst Q e (subst P (sym (inserted_right (k - 1) (omega arith))) (all (k - 1) (omega (arith, length-inserted)))))
        ]
      ]

-- an instant that is not among the dates is behind the date before its place, and before the one at its place
module _ (dates : List ℤ) (t : ℤ) where
  pub earlier_dates : (k : ℕ) → k < place_of dates t → get_or dates k (pos 0) <ℤ t
  earlier_dates k h = not_le t (get_or dates k (pos 0)) (fails_before_first (int_le t) dates k (pos 0) h)

  pub later_date : is_dated dates t ≡ false → place_of dates t < length dates → t <ℤ get_or dates (place_of dates t) (pos 0)
  later_date new h =
      let n : int_le (get_or dates (place_of dates t) (pos 0)) t ≡ false = (rw (lt-ltb (place_of dates t) (length dates) h) at new) in
      not_le (get_or dates (place_of dates t) (pos 0)) t n

  pub same_date : is_dated dates t ≡ true → (place_of dates t < length dates) × (get_or dates (place_of dates t) (pos 0) ≡ t)
  same_date old =
      elim (cases_lt (place_of dates t) (length dates)) [
        | inl lt ↦
            (let m : int_le (get_or dates (place_of dates t) (pos 0)) t ≡ true = (rw (lt-ltb (place_of dates t) (length dates) lt) at old) in
            let below : get_or dates (place_of dates t) (pos 0) ≤ℤ t = le_is _ _ m in
            let above : t ≤ℤ get_or dates (place_of dates t) (pos 0) = le_is _ _ (passes_at_first (int_le t) dates (pos 0) lt) in
            (lt, omega (arith, ints)))
        | inr ge ↦ absurd (true≢false (sym (rw (le-ltb (place_of dates t) (length dates) ge) at old)))
      ]
