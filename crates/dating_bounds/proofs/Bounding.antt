-- The computed bounds of a boundary hold in every placing, and no better ones do.
use Rattle.std.proofs.Common.{zero, suc, ◌≡◌, ℕ, Bool, true, false, ◌<◌, ◌≤◌, length, arith, inl, inr, refl, subst, ap, sym, ◌∙◌}
use Rattle.std.specs.Prelude.{Option, Some, None}
use Rattle.std.proofs.lemmas.Bool.{cases_lt, true≢false, lt-ltb, le-ltb}
use Rattle.std.proofs.lemmas.Option.{none-some}
use Rattle.order_laws.specs.declared.Point.{Point}
use Rattle.order_laws.specs.declared.Point.TheVariants.{Start, End, Date}
use Rattle.order_laws.specs.Chains.{HasCycle}
use Rattle.order_laws.specs.Closure.{reach_between}
use Rattle.order_laws.specs.Placings.{position_at}
use Rattle.order_laws.specs.Positions.{IsBefore}
use Rattle.order_laws.specs.Tables.{is_known, is_strict, IsPoint, floor_of, IsOrderSet, IsOrderly}
use Rattle.order_laws.specs.Wider.{plain_placing, delaying_placing}
use Rattle.order_laws.proofs.Built.{floor_below, floor_known, floor_greatest}
use Rattle.order_laws.proofs.Closure.{has, entry_follows, follows_entry}
use Rattle.order_laws.proofs.Placed.{computed_orderly, always_follows, follows_always, delayed_before, delayed_on}
use Rattle.order_core.specs.Sets.{Orders}
use Rattle.dating_bounds.specs.declared.extremes.DateBound.{DateBound}
use Rattle.dating_bounds.specs.Around.{IsBoundary, Always, IsLow, IsHigh, IsBoundOf, ceiling_of, low_at, high_at, bound_of}
use Rattle.dating_bounds.proofs.Halves.{is_false, ceiling_below, ceiling_known, ceiling_unknown, later_known}
use Rattle.dating_bounds.proofs.Standing.{on_date, before_date, upon_date}

pub boundary_point : (extents dates : ℕ) (p : Point) → IsBoundary extents p → IsPoint extents dates p
boundary_point extents dates (Start k) h = h
boundary_point extents dates (End k) h = h
boundary_point extents dates (Date k) h = absurd h

some_bound : (a b : DateBound) → Some a ≡ Some b → a ≡ b
some_bound a b e = ap {A = Option DateBound} (λ o. elim o as (λ _. DateBound) [ None ↦ a | Some z ↦ z ]) e

module _ (set : Orders) (keeps : IsOrderSet set.list set.extents set.dates) (no_cycle : HasCycle set.list → ⊥) where
  pub always_of : (x y : Point) (b : Bool) → has b (reach_between set.list x y) ≡ true → Always set x y b
  always_of x y b h = follows_always set.list set.extents set.dates x y b (entry_follows set.list x y b h)

  pub of_always : (x y : Point) → IsPoint set.extents (length set.dates) x → IsPoint set.extents (length set.dates) y → (b : Bool) →
      Always set x y b → has b (reach_between set.list x y) ≡ true
  of_always x y in_x in_y b a = follows_entry set.list x y b (always_follows set.list set.extents set.dates keeps no_cycle x y in_x in_y b a)

  pub good : IsOrderly set.list set.extents (length set.dates) (reach_between set.list)
  good = computed_orderly set.list set.extents set.dates keeps no_cycle

  low_is : (p : Point) → IsPoint set.extents (length set.dates) p → (f : ℕ) → floor_of (reach_between set.list) (length set.dates) p ≡ f →
      IsLow set p (low_at (reach_between set.list) p f)
  low_is p in_p zero e = λ d l always. absurd (omega (arith, floor_greatest (reach_between set.list) (length set.dates) p d l (of_always (Date d) p l in_p false always), e))
  low_is p in_p (suc k) e =
      let low : k < length set.dates = omega (arith, floor_below (reach_between set.list) (length set.dates) p, e) in
      record {
        within = low;
        before = always_of (Date k) p false (floor_known (reach_between set.list) (length set.dates) p k e);
        last = λ d lt l always. absurd (omega (arith, lt, floor_greatest (reach_between set.list) (length set.dates) p d l (of_always (Date d) p l in_p false always), e));
        strictly = (λ s. always_of (Date k) p true s, λ a. of_always (Date k) p low in_p true a);
      }

  not_below_ceiling : (p : Point) → IsPoint set.extents (length set.dates) p → (d : ℕ) → d < ceiling_of (reach_between set.list) (length set.dates) p →
      is_known (reach_between set.list p (Date d)) ≡ true → ⊥
  not_below_ceiling p in_p d h known =
      let most : ceiling_of (reach_between set.list) (length set.dates) p ≤ length set.dates = ceiling_below (reach_between set.list) p (length set.dates) in
      let go : (c : ℕ) → ceiling_of (reach_between set.list) (length set.dates) p ≡ c → ⊥ = λ c. elim c as (λ g. ceiling_of (reach_between set.list) (length set.dates) p ≡ g → ⊥) [
        | zero ↦ λ e. omega (arith, h, e)
        | suc k ↦ λ e. true≢false (sym (later_known set.list set.extents set.dates (reach_between set.list) keeps good p in_p d k (omega (arith, h, e)) (omega (arith, most, e)) known)
            ∙ ceiling_unknown (reach_between set.list) p (length set.dates) k e)
      ] in
      go (ceiling_of (reach_between set.list) (length set.dates) p) refl

  high_is : (p : Point) → IsPoint set.extents (length set.dates) p →
      IsHigh set p (high_at (reach_between set.list) (length set.dates) p (ceiling_of (reach_between set.list) (length set.dates) p))
  high_is p in_p =
      let c : ℕ = ceiling_of (reach_between set.list) (length set.dates) p in
      elim (cases_lt c (length set.dates)) [
        | inl lt ↦ rw (lt-ltb c (length set.dates) lt) (record {
          within = lt;
          after = always_of p (Date c) false (ceiling_known (reach_between set.list) p (length set.dates) c (omega arith) lt);
          first = λ d h always. not_below_ceiling p in_p d h (of_always p (Date d) in_p (omega (arith, h, lt)) false always);
          strictly = (λ s. always_of p (Date c) true s, λ a. of_always p (Date c) in_p lt true a);
        })
        | inr ge ↦ rw (le-ltb c (length set.dates) ge) (λ d l always. not_below_ceiling p in_p d (omega (arith, l, ge)) (of_always p (Date d) in_p l false always))
      ]

  pub bound_is : (p : Point) → IsBoundary set.extents p → IsBoundOf set p (bound_of set p)
  bound_is p boundary =
      let in_p : IsPoint set.extents (length set.dates) p = boundary_point set.extents (length set.dates) p boundary in
      record {
        low = low_is p in_p (floor_of (reach_between set.list) (length set.dates) p) refl;
        high = high_is p in_p;
      }

  pub plain_before : (p : Point) (d : ℕ) → IsBoundary set.extents p → d < length set.dates → (Always set (Date d) p false → ⊥) →
      IsBefore (position_at set.dates (plain_placing set.list set.extents set.dates) p) (on_date set.dates d)
  plain_before p d boundary h never =
      before_date set.list set.extents set.dates (reach_between set.list) keeps good p (boundary_point set.extents (length set.dates) p boundary) d h
      (is_false _ (λ e. never (always_of (Date d) p false e)))

  -- what the table says of the date of a low bound that is not strict
  low_weak : (p : Point) (d f : ℕ) → floor_of (reach_between set.list) (length set.dates) p ≡ f →
      low_at (reach_between set.list) p f ≡ Some (record { date = d; strict = false }) →
      (d < length set.dates) × (is_known (reach_between set.list (Date d) p) ≡ true) × (is_strict (reach_between set.list (Date d) p) ≡ false)
  low_weak p d zero e s = absurd (none-some _ s)
  low_weak p d (suc k) e s =
      let same : k ≡ d = ap (λ (b : DateBound). b.date) (some_bound _ _ s) in
      let weak : is_strict (reach_between set.list (Date k) p) ≡ false = ap (λ (b : DateBound). b.strict) (some_bound _ _ s) in (
        omega (arith, floor_below (reach_between set.list) (length set.dates) p, e, same),
        (let P : ℕ → Type 0 = λ j. is_known (reach_between set.list (Date j) p) ≡ true in subst P same (floor_known (reach_between set.list) (length set.dates) p k e)),
        (let P : ℕ → Type 0 = λ j. is_strict (reach_between set.list (Date j) p) ≡ false in subst P same weak),
      )

  pub plain_upon : (p : Point) (d : ℕ) → IsBoundary set.extents p → (bound_of set p).low ≡ Some (record { date = d; strict = false }) →
      position_at set.dates (plain_placing set.list set.extents set.dates) p ≡ on_date set.dates d
  plain_upon p d boundary s =
      let w = low_weak p d (floor_of (reach_between set.list) (length set.dates) p) refl s in
      upon_date set.list set.extents set.dates (reach_between set.list) keeps good p (boundary_point set.extents (length set.dates) p boundary) d w.0 w.1 w.2

  pub delaying_after : (p : Point) (d : ℕ) → IsBoundary set.extents p → d < length set.dates → (Always set p (Date d) false → ⊥) →
      IsBefore (on_date set.dates d) (position_at set.dates (delaying_placing set.list set.extents set.dates p) p)
  delaying_after p d boundary h never =
      delayed_before set.list set.extents set.dates keeps no_cycle p (Date d) (boundary_point set.extents (length set.dates) p boundary) h
      (λ f. never (follows_always set.list set.extents set.dates p (Date d) false f))

  high_weak : (p : Point) (d c : ℕ) → ceiling_of (reach_between set.list) (length set.dates) p ≡ c →
      high_at (reach_between set.list) (length set.dates) p c ≡ Some (record { date = d; strict = false }) →
      (d < length set.dates) × (is_known (reach_between set.list p (Date d)) ≡ true) × (is_strict (reach_between set.list p (Date d)) ≡ false)
  high_weak p d c e s =
      elim (cases_lt c (length set.dates)) [
        | inl lt ↦
            (let s' : Some (record { date = c; strict = is_strict (reach_between set.list p (Date c)) }) ≡ Some (record { date = d; strict = false }) = (rw (lt-ltb c (length set.dates) lt) at s) in
            let same : c ≡ d = ap (λ (b : DateBound). b.date) (some_bound _ _ s') in
            let weak : is_strict (reach_between set.list p (Date c)) ≡ false = ap (λ (b : DateBound). b.strict) (some_bound _ _ s') in (
              omega (arith, lt, same),
              (let P : ℕ → Type 0 = λ j. is_known (reach_between set.list p (Date j)) ≡ true in
                  subst P same (ceiling_known (reach_between set.list) p (length set.dates) c (omega (arith, e)) lt)),
              (let P : ℕ → Type 0 = λ j. is_strict (reach_between set.list p (Date j)) ≡ false in subst P same weak),
            ))
        | inr ge ↦ absurd (none-some _ (rw (le-ltb c (length set.dates) ge) at s))
      ]

  pub delaying_upon : (p : Point) (d : ℕ) → IsBoundary set.extents p → (bound_of set p).high ≡ Some (record { date = d; strict = false }) →
      position_at set.dates (delaying_placing set.list set.extents set.dates p) p ≡ on_date set.dates d
  delaying_upon p d boundary s =
      let w = high_weak p d (ceiling_of (reach_between set.list) (length set.dates) p) refl s in
      sym (delayed_on set.list set.extents set.dates keeps no_cycle p (Date d) (boundary_point set.extents (length set.dates) p boundary) w.0
      (entry_follows set.list p (Date d) false w.1) (λ f. true≢false (sym (follows_entry set.list p (Date d) true f) ∙ w.2)))
