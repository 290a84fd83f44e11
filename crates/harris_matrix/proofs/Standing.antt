-- For orders without a cycle the extents that end before others are strictly ordered.
use Rattle.std.proofs.Common.{◌≡◌, ◌<◌, inl, inr, ℕ, ℤ, Bool, true, false, List, length, get_or, refl, sym, ap, subst, ◌∙◌}
use Rattle.std.specs.Prelude.{◌||◌}
use Rattle.std.proofs.lemmas.Bool.{cases_Bool, true≢false}
use Rattle.order_laws.specs.declared.Point.{Point}
use Rattle.order_laws.specs.declared.Point.TheVariants.{Start, End}
use Rattle.order_laws.specs.declared.Order.{Order}
use Rattle.order_laws.specs.declared.Reach.{Reach}
use Rattle.order_laws.specs.declared.Reach.TheVariants.{None as Nothing, Le, Lt}
use Rattle.order_laws.specs.Chains.{order_at}
use Rattle.order_laws.specs.Tables.{is_known, is_strict, IsOrderSet, IsOrderly}
use Rattle.order_core.specs.Sets.{AreExtents}
use Rattle.harris_matrix.specs.Cells.{ends_before, comes_before}
use Rattle.harris_matrix.specs.Rows.{IsStrictOrder, IsMarked, mark_at}
use Rattle.harris_matrix.proofs.Agreeing.{order_same}
use Rattle.harris_matrix.proofs.Striking.{or_left}

module _ (orders : List Order) (extents : ℕ) (dates : List ℤ) (table : Point → Point → Reach)
    (set : IsOrderSet orders extents dates) (orderly : IsOrderly orders extents (length dates) table) where
  starts_strictly : (k : ℕ) → k < extents → is_strict (table (Start k) (End k)) ≡ true
  starts_strictly k h =
      let own = set.starts_before_ends k h in
      let P : Point → Type 0 = λ z. is_strict (table z (End k)) ≡ true in
      let Q : Point → Type 0 = λ z. is_strict (table (order_at orders own.0).low z) ≡ true in
      subst P own.1.1 (subst Q own.1.2 (orderly.keeps_strictly own.0 own.1.0 own.1.3))

  strict_is_known : (r : Reach) → is_strict r ≡ true → is_known r ≡ true
  strict_is_known Nothing e = absurd (true≢false (sym e))
  strict_is_known Le e = refl
  strict_is_known Lt e = refl

  pub strict_order : (least : List ℕ) → AreExtents extents least → IsStrictOrder (comes_before table least) (length least)
  strict_order least extents_of = record { joins = joins; never = never }
    where
      range : (k : ℕ) → k < length least → get_or least k 0 < extents
      range k h = extents_of k 0 h

      joins : (i j k : ℕ) → i < length least → j < length least → k < length least →
          comes_before table least i j ≡ true → comes_before table least j k ≡ true → comes_before table least i k ≡ true
      joins i j k h l w e f =
          let a : ℕ = get_or least i 0 in let b : ℕ = get_or least j 0 in let c : ℕ = get_or least k 0 in
          orderly.joins (End a) (Start b) (Start c) (range i h) (range j l) (range k w) e
          (orderly.joins (Start b) (End b) (Start c) (range j l) (range j l) (range k w) (strict_is_known (table (Start b) (End b)) (starts_strictly b (range j l))) f)

      or_last : (x y : Bool) → y ≡ true → (x || y) ≡ true
      or_last true y e = refl
      or_last false y e = e

      never : (i : ℕ) → i < length least → comes_before table least i i ≡ false
      never i h =
          let a : ℕ = get_or least i 0 in
          elim (cases_Bool (comes_before table least i i)) [
            | inr nay ↦ nay
            | inl yea ↦ (let s = orderly.joins_strictly (End a) (Start a) (End a) (range i h) (range i h) (range i h) yea
                (strict_is_known (table (Start a) (End a)) (starts_strictly a (range i h)))
                (or_last (is_strict (table (End a) (Start a))) (is_strict (table (Start a) (End a))) (starts_strictly a (range i h))) in
                absurd (true≢false (sym s ∙ ap is_strict (orderly.itself (End a) (range i h)))))
          ]

  -- what starts behind a does not start before or with it
  pub starts_apart : (a b : ℕ) → a < extents → b < extents → is_strict (table (Start a) (Start b)) ≡ true → is_known (table (Start b) (Start a)) ≡ false
  starts_apart a b h l e = elim (cases_Bool (is_known (table (Start b) (Start a)))) [
    | inr nay ↦ nay
    | inl yea ↦ (let s = orderly.joins_strictly (Start a) (Start b) (Start a) h l h (strict_is_known (table (Start a) (Start b)) e) yea
        (or_left (is_strict (table (Start a) (Start b))) (is_strict (table (Start b) (Start a))) e) in
        absurd (true≢false (sym s ∙ ap is_strict (orderly.itself (Start a) h))))
  ]

  pub rows_order : (count : ℕ) (marks least : List ℕ) → count ≡ length least → IsMarked (ends_before table) least (length least) marks →
      AreExtents extents least → IsStrictOrder (mark_at count marks) count
  rows_order count marks least size m range =
      let P : ℕ → Type 0 = λ n. IsStrictOrder (mark_at n marks) n in
      subst P (sym size) (order_same (length least) (mark_at (length least) marks) (comes_before table least) (λ i j h l. m.each i j h h l) (strict_order least range))
