-- Where a built placing puts a boundary among the dates.
use Rattle.std.proofs.Common.{zero, suc, ◌≡◌, ℕ, ℤ, pos, List, [], ◌∷◌, Bool, true, false, ◌+◌, ◌<◌, ◌≤◌, length, get_or, arith, inl, inr, refl, subst, ap, sym, ◌∙◌, add-one}
use Rattle.std.specs.Prelude.{◌<ℤ◌, ◌&&◌, ◌||◌}
use Rattle.std.proofs.lemmas.Int.{ints}
use Rattle.std.proofs.lemmas.Bool.{cases_Bool, cases_eq, cases_lt, true≢false, eqb-true}
use Rattle.order_laws.specs.declared.Order.{Order}
use Rattle.order_laws.specs.declared.Point.{Point}
use Rattle.order_laws.specs.declared.Point.TheVariants.{Date}
use Rattle.order_laws.specs.declared.Position.{Position}
use Rattle.order_laws.specs.declared.Reach.{Reach}
use Rattle.order_laws.specs.Positions.{Stand, IsBefore}
use Rattle.order_laws.specs.Placings.{position_at}
use Rattle.order_laws.specs.Tables.{is_known, is_strict, IsPoint, all_points, floor_of, lowest, floor_instant, count_where, counts, built, built_at, IsOrderSet, IsOrderly}
use Rattle.order_laws.proofs.Built.{floor_below, floor_known, floor_greatest, Among}
use Rattle.order_laws.proofs.LawD.{known_of_strict, placed}
use Rattle.order_laws.proofs.Members.{in_range}
use Rattle.dating_bounds.proofs.Halves.{is_false, earlier_known, earlier_strict}

-- the position of a date
abbrev pub on_date : List ℤ → ℕ → Position
on_date dates d = record { instant = get_or dates d (pos 0); rank = 0 }

dates_ordered : (dates : List ℤ) → ((k : ℕ) → k + 1 < length dates → get_or dates k (pos 0) <ℤ get_or dates (k + 1) (pos 0)) →
    (j k : ℕ) → j < k → k < length dates → get_or dates j (pos 0) <ℤ get_or dates k (pos 0)
dates_ordered dates up j zero h l = absurd (omega arith)
dates_ordered dates up j (suc k) h l =
    let step : get_or dates k (pos 0) <ℤ get_or dates (suc k) (pos 0) = (rw add-one at (up k (omega arith))) in
    elim (cases_eq j k) [
      | inl same ↦ (let P : ℕ → Type 0 = λ i. get_or dates i (pos 0) <ℤ get_or dates (suc k) (pos 0) in subst P (sym same) step)
      | inr other ↦ (let before : get_or dates j (pos 0) <ℤ get_or dates k (pos 0) = dates_ordered dates up j k (omega arith) (omega arith) in omega (arith, ints))
    ]

lowest_below : (dates : List ℤ) → ((j k : ℕ) → j < k → k < length dates → get_or dates j (pos 0) <ℤ get_or dates k (pos 0)) →
    (k : ℕ) → k < length dates → lowest dates <ℤ get_or dates k (pos 0)
lowest_below [] up k h = absurd (omega arith)
lowest_below (t ∷ ts) up zero h = omega (arith, ints)
lowest_below (t ∷ ts) up (suc k) h = omega (arith, ints, up zero (suc k) (omega arith) h)

-- the instant of a floor is before each date from the floor on
floor_before : (dates : List ℤ) → ((k : ℕ) → k + 1 < length dates → get_or dates k (pos 0) <ℤ get_or dates (k + 1) (pos 0)) →
    (floor d : ℕ) → floor ≤ d → d < length dates → floor_instant dates floor <ℤ get_or dates d (pos 0)
floor_before dates up zero d h l = lowest_below dates (dates_ordered dates up) d l
floor_before dates up (suc k) d h l = dates_ordered dates up k d (omega arith) l

count_none : (f : Point → Bool) (xs : List Point) → ((x : Point) → Among x xs → f x ≡ false) → count_where f xs ≡ 0
count_none f [] h = refl
count_none f (x ∷ xs) h =
    let here : f x ≡ false = h x (inl refl) in
    rw (here) (omega (arith, count_none f xs (λ z a. h z (inr a))))

both : (a b : Bool) → (a && b) ≡ true → (a ≡ true) × (b ≡ true)
both true true h = (refl, refl)
both true false h = absurd (true≢false (sym h))
both false b h = absurd (true≢false (sym h))

or_right : (a b : Bool) → b ≡ true → (a || b) ≡ true
or_right true b h = refl
or_right false b h = h

pub weaken : (p q : Position) → IsBefore p q → Stand false p q
weaken p q h = grind (arith, ints)

module _ (orders : List Order) (extents : ℕ) (dates : List ℤ) (table : Point → Point → Reach)
    (set : IsOrderSet orders extents dates) (good : IsOrderly orders extents (length dates) table) where
  -- a floor is as high as the dates that are known below it
  pub floor_low : (p : Point) → IsPoint extents (length dates) p → (d : ℕ) → d < length dates → is_known (table (Date d) p) ≡ false →
      floor_of table (length dates) p ≤ d
  floor_low p in_p d h unknown =
      let go : (f : ℕ) → floor_of table (length dates) p ≡ f → f ≤ d = λ f. elim f as (λ g. floor_of table (length dates) p ≡ g → g ≤ d) [
        | zero ↦ λ e. omega arith
        | suc k ↦ λ e.
            elim (cases_lt k d) [
              | inl lt ↦ omega arith
              | inr ge ↦ absurd (true≢false (sym (earlier_known orders extents dates table set good p in_p d k ge (omega (arith, floor_below table (length dates) p, e))
                  (floor_known table (length dates) p k e)) ∙ unknown))
            ]
      ] in
      go (floor_of table (length dates) p) refl

  pub before_date : (p : Point) → IsPoint extents (length dates) p → (d : ℕ) → d < length dates → is_known (table (Date d) p) ≡ false →
      IsBefore (position_at dates (built extents dates table) p) (on_date dates d)
  before_date p in_p d h unknown =
      let P : Position → Type 0 = λ z. IsBefore z (on_date dates d) in
      subst P (placed orders extents dates table set good p in_p)
      (inl (floor_before dates set.ascending (floor_of table (length dates) p) d (floor_low p in_p d h unknown) h))

  -- the floor of what is at or behind a date, and not known to be behind it
  pub floor_on : (p : Point) → IsPoint extents (length dates) p → (d : ℕ) → d < length dates → is_known (table (Date d) p) ≡ true → is_strict (table (Date d) p) ≡ false →
      floor_of table (length dates) p ≡ suc d
  floor_on p in_p d h known weak =
      let least : d < floor_of table (length dates) p = floor_greatest table (length dates) p d h known in
      let go : (f : ℕ) → floor_of table (length dates) p ≡ f → f ≡ suc d = λ f. elim f as (λ g. floor_of table (length dates) p ≡ g → g ≡ suc d) [
        | zero ↦ λ e. absurd (omega arith)
        | suc k ↦ λ e. elim (cases_eq k d) [
          | inl same ↦ ap suc same
          | inr other ↦ absurd (true≢false (sym (earlier_strict orders extents dates table set good p in_p d k (omega arith)
              (omega (arith, floor_below table (length dates) p, e)) (floor_known table (length dates) p k e)) ∙ weak))
        ]
      ] in
      go (floor_of table (length dates) p) refl

  rank_on : (p : Point) → IsPoint extents (length dates) p → (d : ℕ) → d < length dates → is_known (table (Date d) p) ≡ true → is_strict (table (Date d) p) ≡ false →
      count_where (counts table (length dates) p) (all_points extents (length dates)) ≡ 0
  rank_on p in_p d h known weak =
      count_none (counts table (length dates) p) (all_points extents (length dates)) (λ q a.
      (let in_q : IsPoint extents (length dates) q = in_range extents (length dates) q a in
      is_false _ (λ e.
      (let parts = both _ _ e in
      let of_q : floor_of table (length dates) q ≡ suc d = eqb-true _ _ parts.1 ∙ floor_on p in_p d h known weak in
      true≢false (sym (good.joins_strictly (Date d) q p h in_q in_p (floor_known table (length dates) q d of_q) (known_of_strict _ parts.0)
      (or_right (is_strict (table (Date d) q)) (is_strict (table q p)) parts.0)) ∙ weak)))))

  built_on : (p : Point) → IsPoint extents (length dates) p → (d : ℕ) → d < length dates → is_known (table (Date d) p) ≡ true → is_strict (table (Date d) p) ≡ false →
      built_at extents dates table p ≡ on_date dates d
  built_on p in_p d h known weak = rw (floor_on p in_p d h known weak, rank_on p in_p d h known weak)

  pub upon_date : (p : Point) → IsPoint extents (length dates) p → (d : ℕ) → d < length dates → is_known (table (Date d) p) ≡ true → is_strict (table (Date d) p) ≡ false →
      position_at dates (built extents dates table) p ≡ on_date dates d
  upon_date p in_p d h known weak =
      sym (placed orders extents dates table set good p in_p) ∙ built_on p in_p d h known weak

  -- what is not known to be behind a date is put at or before it
  pub at_or_before_date : (p : Point) → IsPoint extents (length dates) p → (d : ℕ) → d < length dates → is_strict (table (Date d) p) ≡ false →
      Stand false (position_at dates (built extents dates table) p) (on_date dates d)
  at_or_before_date p in_p d h weak =
      elim (cases_Bool (is_known (table (Date d) p))) [
        | inl known ↦ (let P : Position → Type 0 = λ z. Stand false z (on_date dates d) in subst P (sym (upon_date p in_p d h known weak)) (inr (refl, omega arith)))
        | inr unknown ↦ weaken _ _ (before_date p in_p d h unknown)
      ]
