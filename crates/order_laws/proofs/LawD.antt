-- Over an orderly table the built placing keeps what the table knows.
use Rattle.std.proofs.Common.{zero, suc, ◌≡◌, ℕ, ℤ, pos, List, [], ◌∷◌, Bool, true, false, ◌+◌, ◌*◌, ◌<◌, ◌≤◌, length, get_or, arith, inl, inr, refl, subst, ap, sym, ◌∙◌, add-one}
use Rattle.std.specs.Prelude.{◌<ℤ◌, ◌||◌, ◌&&◌}
use Rattle.std.proofs.lemmas.Int.{ints}
use Rattle.std.proofs.lemmas.Bool.{cases_Bool, cases_eq, true≢false, eqb-true, eq-eqb}
use Rattle.std.proofs.lemmas.List.{get_or-map}
use Rattle.order_laws.specs.declared.Order.{Order}
use Rattle.order_laws.specs.declared.Point.{Point}
use Rattle.order_laws.specs.declared.Point.TheVariants.{Start, End, Date}
use Rattle.order_laws.specs.declared.Reach.{Reach}
use Rattle.order_laws.specs.declared.Reach.TheVariants.{None as Nothing, Le, Lt}
use Rattle.order_laws.specs.declared.Position.{Position}
use Rattle.order_laws.specs.Positions.{Stand}
use Rattle.order_laws.specs.Chains.{order_at}
use Rattle.order_laws.specs.Placings.{IsSatisfied, position_at, no_position}
use Rattle.order_laws.specs.Tables.{is_known, is_strict, IsPoint, boundaries, all_points, floor_of, lowest, floor_instant, count_where, counts, built_at, built, IsOrderSet, IsOrderly}
use Rattle.order_laws.proofs.Built.{floor_below, floor_known, floor_greatest, Among, count_le, count_lt}
use Rattle.order_laws.proofs.Members.{in_range, all_among, length-boundaries, boundary_start, boundary_end}

pub known_of_strict : (r : Reach) → is_strict r ≡ true → is_known r ≡ true
known_of_strict Nothing h = h
known_of_strict Le h = refl
known_of_strict Lt h = refl

both : (a b : Bool) → (a && b) ≡ true → (a ≡ true) × (b ≡ true)
both true true h = (refl, refl)
both true false h = absurd (true≢false (sym h))
both false b h = absurd (true≢false (sym h))

of_both : (a b : Bool) → a ≡ true → b ≡ true → (a && b) ≡ true
of_both a b h k = rw (h, k)

or_left : (a b : Bool) → a ≡ true → (a || b) ≡ true
or_left a b h = rw h

or_right : (a b : Bool) → b ≡ true → (a || b) ≡ true
or_right true b h = refl
or_right false b h = h

not_both : (r : Reach) → is_strict r ≡ true → r ≡ Le → ⊥
not_both r h e = let P : Reach → Type 0 = λ z. is_strict z ≡ true in true≢false (sym (subst P e h))

known_of_le : (r : Reach) → r ≡ Le → is_known r ≡ true
known_of_le r e = ap is_known e

count_none : (f : Point → Bool) (xs : List Point) → ((x : Point) → Among x xs → f x ≡ false) → count_where f xs ≡ 0
count_none f [] h = refl
count_none f (x ∷ xs) h =
    let here : f x ≡ false = h x (inl refl) in
    rw (here) (omega (arith, count_none f xs (λ z a. h z (inr a))))

-- ascending dates, any two of them
dates_ordered : (dates : List ℤ) → ((k : ℕ) → k + 1 < length dates → get_or dates k (pos 0) <ℤ get_or dates (k + 1) (pos 0)) →
    (j k : ℕ) → j < k → k < length dates → get_or dates j (pos 0) <ℤ get_or dates k (pos 0)
dates_ordered dates up j zero h l = absurd (omega arith)
dates_ordered dates up j (suc k) h l =
    let step : get_or dates k (pos 0) <ℤ get_or dates (suc k) (pos 0) = (rw add-one at (up k (omega arith))) in
    elim (cases_eq j k) [
      | inl same ↦ (let P : ℕ → Type 0 = λ i. get_or dates i (pos 0) <ℤ get_or dates (suc k) (pos 0) in subst P (sym same) step)
      | inr other ↦ (let before : get_or dates j (pos 0) <ℤ get_or dates k (pos 0) = dates_ordered dates up j k (omega arith) (omega arith) in omega (arith, ints))
    ]

lowest_below : (dates : List ℤ) → ((j k : ℕ) → j < k → k < length dates → get_or dates j (pos 0) <ℤ get_or dates k (pos 0)) →
    (k : ℕ) → k < length dates → lowest dates <ℤ get_or dates k (pos 0)
lowest_below [] up k h = absurd (omega arith)
lowest_below (t ∷ ts) up zero h = omega (arith, ints)
lowest_below (t ∷ ts) up (suc k) h = omega (arith, ints, up zero (suc k) (omega arith) h)

module _ (orders : List Order) (extents : ℕ) (dates : List ℤ) (table : Point → Point → Reach)
    (set : IsOrderSet orders extents dates) (good : IsOrderly orders extents (length dates) table) where
  neighbour_before : (k : ℕ) → k + 1 < length dates → is_strict (table (Date k) (Date (k + 1))) ≡ true
  neighbour_before k h =
      let m = set.neighbours k h in
      let P : Point → Type 0 = λ z. is_strict (table z (Date (k + 1))) ≡ true in
      let Q : Point → Type 0 = λ z. is_strict (table (order_at orders m.0).low z) ≡ true in
      subst P m.1.1 (subst Q m.1.2 (good.keeps_strictly m.0 m.1.0 m.1.3))

  date_before : (j k : ℕ) → j < k → k < length dates → is_strict (table (Date j) (Date k)) ≡ true
  date_before j zero h l = absurd (omega arith)
  date_before j (suc k) h l =
      let step : is_strict (table (Date k) (Date (suc k))) ≡ true = (rw add-one at (neighbour_before k (omega arith))) in
      elim (cases_eq j k) [
        | inl same ↦ (let P : ℕ → Type 0 = λ i. is_strict (table (Date i) (Date (suc k))) ≡ true in subst P (sym same) step)
        | inr other ↦
            (let before : is_strict (table (Date j) (Date k)) ≡ true = date_before j k (omega arith) (omega arith) in
            good.joins_strictly (Date j) (Date k) (Date (suc k)) (omega arith) (omega arith) l
            (known_of_strict _ before) (known_of_strict _ step) (or_left _ _ before))
      ]

  n : ℕ
  n = length dates

  pub floor_mono : (y z : Point) → IsPoint extents (length dates) y → IsPoint extents (length dates) z → is_known (table y z) ≡ true →
      floor_of table (length dates) y ≤ floor_of table (length dates) z
  floor_mono y z in_y in_z known =
      let go : (f : ℕ) → floor_of table (length dates) y ≡ f → f ≤ floor_of table (length dates) z = λ f. elim f as (λ g. floor_of table (length dates) y ≡ g → g ≤ floor_of table (length dates) z) [
        | zero ↦ λ e. omega arith
        | suc k ↦ λ e.
            (let low : k < length dates = omega (arith, floor_below table (length dates) y) in
            let at_y : is_known (table (Date k) y) ≡ true = floor_known table (length dates) y k e in
            omega (arith, floor_greatest table (length dates) z k low (good.joins (Date k) y z low in_y in_z at_y known)))
      ] in
      go (floor_of table (length dates) y) refl

  floor_instant_lt : (a b : ℕ) → a < b → b ≤ length dates → floor_instant dates a <ℤ floor_instant dates b
  floor_instant_lt a zero h l = absurd (omega arith)
  floor_instant_lt zero (suc k) h l = lowest_below dates (dates_ordered dates set.ascending) k (omega arith)
  floor_instant_lt (suc j) (suc k) h l = dates_ordered dates set.ascending j k (omega arith) (omega arith)

  counts_follow : (y z q : Point) → IsPoint extents (length dates) y → IsPoint extents (length dates) z → IsPoint extents (length dates) q →
      floor_of table (length dates) y ≡ floor_of table (length dates) z → is_known (table y z) ≡ true →
      counts table (length dates) y q ≡ true → counts table (length dates) z q ≡ true
  counts_follow y z q in_y in_z in_q same known h =
      let parts = both _ _ h in
      of_both _ _
      (good.joins_strictly q y z in_q in_y in_z (known_of_strict _ parts.0) known (or_left _ _ parts.0))
      (eq-eqb _ _ (eqb-true _ _ parts.1 ∙ same))

  not_own : (y : Point) → IsPoint extents (length dates) y → counts table (length dates) y y ≡ false
  not_own y in_y = rw (good.itself y in_y)

  pub built_stands : (strict : Bool) (y z : Point) → IsPoint extents (length dates) y → IsPoint extents (length dates) z →
      is_known (table y z) ≡ true → (strict ≡ true → is_strict (table y z) ≡ true) →
      Stand strict (built_at extents dates table y) (built_at extents dates table z)
  built_stands true y z in_y in_z known strictly =
      elim (cases_eq (floor_of table (length dates) y) (floor_of table (length dates) z)) [
        | inl same ↦ inr (
          ap (floor_instant dates) same,
          count_lt (counts table (length dates) y) (counts table (length dates) z) y (all_points extents (length dates))
              (λ q a. counts_follow y z q in_y in_z (in_range extents (length dates) q a) same known)
              (all_among extents (length dates) y in_y)
              (not_own y in_y)
              (of_both _ _ (strictly refl) (eq-eqb _ _ same)),
        )
        | inr other ↦ inl (floor_instant_lt _ _ (omega (arith, floor_mono y z in_y in_z known, other)) (floor_below table (length dates) z))
      ]
  built_stands false y z in_y in_z known strictly =
      elim (cases_eq (floor_of table (length dates) y) (floor_of table (length dates) z)) [
        | inl same ↦ inr (
          ap (floor_instant dates) same,
          count_le (counts table (length dates) y) (counts table (length dates) z) (all_points extents (length dates))
              (λ q a. counts_follow y z q in_y in_z (in_range extents (length dates) q a) same known),
        )
        | inr other ↦ inl (floor_instant_lt _ _ (omega (arith, floor_mono y z in_y in_z known, other)) (floor_below table (length dates) z))
      ]

  never_around : (x y : Point) → IsPoint extents (length dates) x → IsPoint extents (length dates) y →
      is_known (table x y) ≡ true → is_strict (table y x) ≡ true → ⊥
  never_around x y in_x in_y there back =
      not_both _ (good.joins_strictly x y x in_x in_y in_x there (known_of_strict _ back) (or_right _ _ back)) (good.itself x in_x)

  date_floor : (k : ℕ) → k < length dates → floor_of table (length dates) (Date k) ≡ suc k
  date_floor k h =
      let least : k < floor_of table (length dates) (Date k) = floor_greatest table (length dates) (Date k) k h (known_of_le _ (good.itself (Date k) h)) in
      let go : (f : ℕ) → floor_of table (length dates) (Date k) ≡ f → f ≡ suc k = λ f. elim f as (λ g. floor_of table (length dates) (Date k) ≡ g → g ≡ suc k) [
        | zero ↦ λ e. absurd (omega arith)
        | suc m ↦ λ e.
            (let low : m < length dates = omega (arith, floor_below table (length dates) (Date k)) in
            elim (cases_eq m k) [
              | inl same ↦ ap suc same
              | inr other ↦ absurd (never_around (Date m) (Date k) low h (floor_known table (length dates) (Date k) m e) (date_before k m (omega (arith, other)) low))
            ])
      ] in
      go (floor_of table (length dates) (Date k)) refl

  date_rank : (k : ℕ) → k < length dates → count_where (counts table (length dates) (Date k)) (all_points extents (length dates)) ≡ 0
  date_rank k h =
      count_none (counts table (length dates) (Date k)) (all_points extents (length dates)) (λ q a.
      (let in_q : IsPoint extents (length dates) q = in_range extents (length dates) q a in
      elim (cases_Bool (counts table (length dates) (Date k) q)) [
        | inl yes_it_is ↦
            (let parts = both _ _ yes_it_is in
            absurd (never_around (Date k) q h in_q (floor_known table (length dates) q k (eqb-true _ _ parts.1 ∙ date_floor k h)) parts.0))
        | inr no_it_is_not ↦ no_it_is_not
      ]))

  pub built_date : (k : ℕ) → k < length dates →
      built_at extents dates table (Date k) ≡ record { instant = get_or dates k (pos 0); rank = 0 }
  built_date k h = rw (date_floor k h, date_rank k h)

  pub placed : (x : Point) → IsPoint extents (length dates) x →
      built_at extents dates table x ≡ position_at dates (built extents dates table) x
  placed (Start k) h =
      sym (get_or-map (built_at extents dates table) (boundaries extents) (2 * k) (Start 0) no_position (omega (arith, length-boundaries extents))
      ∙ ap (built_at extents dates table) (boundary_start extents k (Start 0) h))
  placed (End k) h =
      sym (get_or-map (built_at extents dates table) (boundaries extents) (2 * k + 1) (Start 0) no_position (omega (arith, length-boundaries extents))
      ∙ ap (built_at extents dates table) (boundary_end extents k (Start 0) h))
  placed (Date k) h = built_date k h

  pub built_satisfies : IsSatisfied orders dates (built extents dates table)
  built_satisfies m h =
      let P : Position → Type 0 = λ p. Stand (order_at orders m).strict p (position_at dates (built extents dates table) (order_at orders m).high) in
      let Q : Position → Type 0 = λ p. Stand (order_at orders m).strict (built_at extents dates table (order_at orders m).low) p in
      subst P (placed (order_at orders m).low (set.low_in_range m h))
      (subst Q (placed (order_at orders m).high (set.high_in_range m h))
      (built_stands (order_at orders m).strict (order_at orders m).low (order_at orders m).high (set.low_in_range m h) (set.high_in_range m h) (good.keeps m h) (good.keeps_strictly m h)))
