-- Of the two orders of an extent under way one changes the plain placing.
use Rattle.std.proofs.Common.{◌≡◌, ℕ, List, [], ◌∷◌, ◌++◌, Bool, true, false, ◌<◌, length, inl, inr, refl, subst, ap, sym, ◌∙◌}
use Rattle.std.specs.Prelude.{◌||◌, ◌&&◌}
use Rattle.std.proofs.lemmas.Bool.{cases_Bool, true≢false}
use Rattle.order_laws.specs.declared.Order.{Order}
use Rattle.order_laws.specs.declared.Point.{Point}
use Rattle.order_laws.specs.declared.Point.TheVariants.{Start, End, Date}
use Rattle.order_laws.specs.declared.Reach.{Reach}
use Rattle.order_laws.specs.declared.Reach.TheVariants.{None as Nothing, Le, Lt}
use Rattle.order_laws.specs.Chains.{order_at, HasCycle}
use Rattle.order_laws.specs.Closure.{joined, reach_between}
use Rattle.order_laws.specs.Tables.{is_known, is_strict, IsPoint, boundaries, date_points, built_at, IsOrderSet, IsOrderly}
use Rattle.order_laws.proofs.Closure.{entry_follows, follows_entry}
use Rattle.order_laws.proofs.LawD.{known_of_strict}
use Rattle.order_laws.proofs.Members.{in_range, among_left}
use Rattle.order_laws.proofs.Placed.{built_same, map_same, computed_orderly}
use Rattle.order_core.specs.Sets.{Orders}
use Rattle.order_extension.proofs.Further.{each_joined, further_is_set}
use Rattle.dating_bounds.specs.Moment.{is_surely, is_never, order_to, inside_orders, outside_order, plain_with}
use Rattle.dating_bounds.specs.Pushed.{IsPush, inside_order}
use Rattle.dating_bounds.proofs.Adding.{Holds, AreHeld, holds_left, holds_right, holds_later, holds_first, held_one, held_front, follows_held, reach_held, added}
use Rattle.dating_bounds.proofs.Bounding.{good}
use Rattle.dating_bounds.proofs.Pushing.{known_joined, strict_joined, built_idle}
use Rattle.dating_bounds.proofs.UnderWay.{neither, not_first, one_in_range, end_apart, inside_consistent}

-- an order that follows already adds nothing
same_entry : (r s : Reach) → is_known r ≡ is_known s → is_strict r ≡ is_strict s → r ≡ s
same_entry Nothing Nothing h k = refl
same_entry Nothing Le h k = absurd (true≢false (sym h))
same_entry Nothing Lt h k = absurd (true≢false (sym h))
same_entry Le Nothing h k = absurd (true≢false h)
same_entry Le Le h k = refl
same_entry Le Lt h k = absurd (true≢false (sym k))
same_entry Lt Nothing h k = absurd (true≢false h)
same_entry Lt Le h k = absurd (true≢false k)
same_entry Lt Lt h k = refl

or_told : (a b : Bool) → (b ≡ true → a ≡ true) → (a || b) ≡ a
or_told true b h = refl
or_told false true h = sym (h refl)
or_told false false h = refl

all_three : (a b c : Bool) → (a && (b && c)) ≡ true → (a ≡ true) × (b ≡ true)
all_three true true c h = (refl, refl)
all_three true false c h = absurd (true≢false (sym h))
all_three false b c h = absurd (true≢false (sym h))

both_true : (a b : Bool) → (a && b) ≡ true → (a ≡ true) × (b ≡ true)
both_true true true h = (refl, refl)
both_true true false h = absurd (true≢false (sym h))
both_true false b h = absurd (true≢false (sym h))

or_second : (a b : Bool) → b ≡ true → (a || b) ≡ true
or_second true b h = refl
or_second false b h = h

-- the points of the orders are in range
pub inside_low_in : (table : Point → Point → Reach) (extents dates date k : ℕ) → date < dates → k < extents → IsPoint extents dates (inside_order table date k).low
inside_low_in table extents dates date k d e = elim (cases_Bool (is_known (table (Date date) (Start k)))) [ inl known ↦ rw known e | inr unknown ↦ rw unknown d ]

pub inside_high_in : (table : Point → Point → Reach) (extents dates date k : ℕ) → date < dates → k < extents → IsPoint extents dates (inside_order table date k).high
inside_high_in table extents dates date k d e = elim (cases_Bool (is_known (table (Date date) (Start k)))) [ inl known ↦ rw known d | inr unknown ↦ rw unknown e ]

pub outside_low_in : (table : Point → Point → Reach) (extents dates date k : ℕ) → date < dates → k < extents → IsPoint extents dates (outside_order table date k).low
outside_low_in table extents dates date k d e = elim (cases_Bool (is_known (table (Start k) (Date date)))) [ inl known ↦ rw known e | inr unknown ↦ rw unknown d ]

pub outside_high_in : (table : Point → Point → Reach) (extents dates date k : ℕ) → date < dates → k < extents → IsPoint extents dates (outside_order table date k).high
outside_high_in table extents dates date k d e = elim (cases_Bool (is_known (table (Start k) (Date date)))) [ inl known ↦ rw known d | inr unknown ↦ rw unknown e ]

module _ (orders : List Order) (extents dates : ℕ) (table : Point → Point → Reach) (good : IsOrderly orders extents dates table)
    (o : Order) (in_low : IsPoint extents dates o.low) (in_high : IsPoint extents dates o.high) (told : is_strict (table o.low o.high) ≡ true) where
  joined_told : (x y : Point) → IsPoint extents dates x → IsPoint extents dates y → joined table o x y ≡ table x y
  joined_told x y in_x in_y =
      let flag : Bool = o.strict || is_strict (table o.high o.low) in
      same_entry (joined table o x y) (table x y)
      (known_joined (table x y) (table x o.low) (table o.high y) flag
      ∙ or_told (is_known (table x y)) (is_known (table x o.low) && is_known (table o.high y)) (λ h.
      (let p = both_true _ _ h in
      good.joins x o.high y in_x in_high in_y (good.joins x o.low o.high in_x in_low in_high p.0 (known_of_strict _ told)) p.1)))
      (strict_joined (table x y) (table x o.low) (table o.high y) flag
      ∙ or_told (is_strict (table x y)) (is_known (table x o.low) && (is_known (table o.high y) && (flag || (is_strict (table x o.low) || is_strict (table o.high y))))) (λ h.
      (let p = all_three _ _ _ h in
      let over : is_strict (table x o.high) ≡ true = good.joins_strictly x o.low o.high in_x in_low in_high p.0 (known_of_strict _ told) (or_second (is_strict (table x o.low)) _ told) in
      good.joins_strictly x o.high y in_x in_high in_y (known_of_strict _ over) p.1 (rw over refl))))

module _ (set : Orders) (keeps : IsOrderSet set.list set.extents set.dates) (no_cycle : HasCycle set.list → ⊥) (date k : ℕ)
    (in_dates : date < length set.dates) (in_extents : k < set.extents) where
  abbrev Upto : Order
  Upto = order_to k (Start k) (Date date) false

  abbrev After : Order
  After = order_to k (Date date) (End k) true

  abbrev Table : Point → Point → Reach
  Table = reach_between set.list

  abbrev In : Point → Type 0
  In x = IsPoint set.extents (length set.dates) x

  held_set : (o : Order) → AreHeld set.list (set.list ++ o ∷ [])
  held_set o = λ n h. holds_left set.list (o ∷ []) (order_at set.list n) (n, (h, refl))

  -- the list with one of the two orders is part of that with both
  part_upto : AreHeld (set.list ++ Upto ∷ []) (set.list ++ inside_orders date k)
  part_upto =
      each_joined (Holds (set.list ++ inside_orders date k)) set.list (Upto ∷ [])
      (λ n h. holds_left set.list (inside_orders date k) (order_at set.list n) (n, (h, refl)))
      (held_one Upto (set.list ++ inside_orders date k) (holds_right set.list (inside_orders date k) Upto (holds_first (After ∷ []) Upto)))

  part_after : AreHeld (set.list ++ After ∷ []) (set.list ++ inside_orders date k)
  part_after =
      each_joined (Holds (set.list ++ inside_orders date k)) set.list (After ∷ [])
      (λ n h. holds_left set.list (inside_orders date k) (order_at set.list n) (n, (h, refl)))
      (held_one After (set.list ++ inside_orders date k) (holds_right set.list (inside_orders date k) After (holds_later Upto (After ∷ []) After (holds_first [] After))))

  -- and both are one of the two in front of the list with the other
  both_after : AreHeld (set.list ++ inside_orders date k) (After ∷ (set.list ++ Upto ∷ []))
  both_after =
      each_joined (Holds (After ∷ (set.list ++ Upto ∷ []))) set.list (inside_orders date k)
      (λ n h. holds_later After (set.list ++ Upto ∷ []) (order_at set.list n) (holds_left set.list (Upto ∷ []) (order_at set.list n) (n, (h, refl))))
      (held_front Upto (After ∷ []) (After ∷ (set.list ++ Upto ∷ []))
      (holds_later After (set.list ++ Upto ∷ []) Upto (holds_right set.list (Upto ∷ []) Upto (holds_first [] Upto)))
      (held_one After (After ∷ (set.list ++ Upto ∷ [])) (holds_first (set.list ++ Upto ∷ []) After)))

  after_both : AreHeld (After ∷ (set.list ++ Upto ∷ [])) (set.list ++ inside_orders date k)
  after_both =
      held_front After (set.list ++ Upto ∷ []) (set.list ++ inside_orders date k)
      (holds_right set.list (inside_orders date k) After (holds_later Upto (After ∷ []) After (holds_first [] After))) part_upto

  both_upto : AreHeld (set.list ++ inside_orders date k) (Upto ∷ (set.list ++ After ∷ []))
  both_upto =
      each_joined (Holds (Upto ∷ (set.list ++ After ∷ []))) set.list (inside_orders date k)
      (λ n h. holds_later Upto (set.list ++ After ∷ []) (order_at set.list n) (holds_left set.list (After ∷ []) (order_at set.list n) (n, (h, refl))))
      (held_front Upto (After ∷ []) (Upto ∷ (set.list ++ After ∷ [])) (holds_first (set.list ++ After ∷ []) Upto)
      (held_one After (Upto ∷ (set.list ++ After ∷ [])) (holds_later Upto (set.list ++ After ∷ []) After (holds_right set.list (After ∷ []) After (holds_first [] After)))))

  upto_both : AreHeld (Upto ∷ (set.list ++ After ∷ [])) (set.list ++ inside_orders date k)
  upto_both =
      held_front Upto (set.list ++ After ∷ []) (set.list ++ inside_orders date k)
      (holds_right set.list (inside_orders date k) Upto (holds_first (After ∷ []) Upto)) part_after

  module _ (possible : is_never (reach_between set.list) date k ≡ false) where
    none_upto : HasCycle (set.list ++ Upto ∷ []) → ⊥
    none_upto cycle =
        inside_consistent set keeps no_cycle date k in_dates in_extents possible
        (cycle.0, follows_held (set.list ++ Upto ∷ []) (set.list ++ inside_orders date k) part_upto cycle.0 cycle.0 true cycle.1)

    none_after : HasCycle (set.list ++ After ∷ []) → ⊥
    none_after cycle =
        inside_consistent set keeps no_cycle date k in_dates in_extents possible
        (cycle.0, follows_held (set.list ++ After ∷ []) (set.list ++ inside_orders date k) part_after cycle.0 cycle.0 true cycle.1)

    set_upto : IsOrderSet (set.list ++ Upto ∷ []) set.extents set.dates
    set_upto = further_is_set set.extents set.dates set.list (Upto ∷ []) keeps (one_in_range set.extents (length set.dates) Upto in_extents in_dates)

    set_after : IsOrderSet (set.list ++ After ∷ []) set.extents set.dates
    set_after = further_is_set set.extents set.dates set.list (After ∷ []) keeps (one_in_range set.extents (length set.dates) After in_dates in_extents)

    -- where the extent starts at the date at the earliest, it ends after it
    ends_after : is_known (reach_between set.list (Date date) (Start k)) ≡ true → is_strict (reach_between (set.list ++ Upto ∷ []) (Date date) (End k)) ≡ true
    ends_after known =
        let g : IsOrderly set.list set.extents (length set.dates) Table = good set keeps no_cycle in
        let m = keeps.starts_before_ends k in_extents in
        let before : is_strict (Table (Start k) (End k)) ≡ true =
        (let P : Point → Type 0 = λ z. is_strict (Table z (End k)) ≡ true in
        let Q : Point → Type 0 = λ z. is_strict (Table (order_at set.list m.0).low z) ≡ true in
        subst P m.1.1 (subst Q m.1.2 (g.keeps_strictly m.0 m.1.0 m.1.3))) in
        let over : is_strict (Table (Date date) (End k)) ≡ true =
        g.joins_strictly (Date date) (Start k) (End k) in_dates in_extents in_extents known (known_of_strict _ before) (or_second (is_strict (Table (Date date) (Start k))) _ before) in
        follows_entry (set.list ++ Upto ∷ []) (Date date) (End k) true
        (follows_held set.list (set.list ++ Upto ∷ []) (held_set Upto) (Date date) (End k) true (entry_follows set.list (Date date) (End k) true over))

    by_upto : is_known (reach_between set.list (Date date) (Start k)) ≡ true → plain_with set (inside_orders date k) ≡ plain_with set (Upto ∷ [])
    by_upto known =
        built_same set.extents set.dates (reach_between (set.list ++ inside_orders date k)) (reach_between (set.list ++ Upto ∷ [])) (λ x y in_x in_y.
        reach_held (set.list ++ inside_orders date k) (After ∷ (set.list ++ Upto ∷ [])) set.extents (length set.dates) both_after after_both x y in_x in_y
        ∙ joined_told (set.list ++ Upto ∷ []) set.extents (length set.dates) (reach_between (set.list ++ Upto ∷ []))
        (computed_orderly (set.list ++ Upto ∷ []) set.extents set.dates set_upto none_upto) After in_dates in_extents (ends_after known) x y in_x in_y)

    unknown_still : is_known (reach_between set.list (Date date) (Start k)) ≡ false → is_known (reach_between (set.list ++ After ∷ []) (Date date) (Start k)) ≡ false
    unknown_still unknown =
        ap is_known (added set.list After set.extents (length set.dates) (Date date) (Start k) in_dates in_extents)
        ∙ known_joined (Table (Date date) (Start k)) (Table (Date date) (Date date)) (Table (End k) (Start k)) (true || is_strict (Table (End k) (Date date)))
        ∙ ap (λ (r : Reach). is_known (Table (Date date) (Start k)) || (is_known (Table (Date date) (Date date)) && is_known r)) (end_apart set keeps no_cycle date k in_dates in_extents)
        ∙ ap (λ b. b || (is_known (Table (Date date) (Date date)) && false)) unknown
        ∙ last_false (is_known (Table (Date date) (Date date)))
      where
        last_false : (a : Bool) → (a && false) ≡ false
        last_false true = refl
        last_false false = refl

    by_after : is_known (reach_between set.list (Date date) (Start k)) ≡ false → plain_with set (inside_orders date k) ≡ plain_with set (After ∷ [])
    by_after unknown =
        let still : is_known (reach_between (set.list ++ After ∷ []) (Date date) (Start k)) ≡ false = unknown_still unknown in
        let weak : is_strict (reach_between (set.list ++ After ∷ []) (Date date) (Start k)) ≡ false = not_strict _ still in
        built_same set.extents set.dates (reach_between (set.list ++ inside_orders date k)) (joined (reach_between (set.list ++ After ∷ [])) Upto) (λ x y in_x in_y.
        reach_held (set.list ++ inside_orders date k) (Upto ∷ (set.list ++ After ∷ [])) set.extents (length set.dates) both_upto upto_both x y in_x in_y)
        ∙ map_same (built_at set.extents set.dates (joined (reach_between (set.list ++ After ∷ [])) Upto)) (built_at set.extents set.dates (reach_between (set.list ++ After ∷ []))) (boundaries set.extents)
        (λ x a. built_idle (set.list ++ After ∷ []) set.extents set.dates (reach_between (set.list ++ After ∷ [])) set_after
        (computed_orderly (set.list ++ After ∷ []) set.extents set.dates set_after none_after) date in_dates Upto in_extents in_dates (inr (refl, refl, weak)) refl refl still x
        (in_range set.extents (length set.dates) x (among_left x (boundaries set.extents) (date_points (length set.dates)) a)))
      where
        not_strict : (r : Reach) → is_known r ≡ false → is_strict r ≡ false
        not_strict Nothing h = refl
        not_strict Le h = refl
        not_strict Lt h = h

    pub inside_once : plain_with set (inside_orders date k) ≡ plain_with set (inside_order (reach_between set.list) date k ∷ [])
    inside_once =
        elim (cases_Bool (is_known (reach_between set.list (Date date) (Start k)))) [
          | inl known ↦ rw known (by_upto known)
          | inr unknown ↦ rw unknown (by_after unknown)
        ]

    pub inside_push : IsPush (reach_between set.list) date (inside_order (reach_between set.list) date k)
    inside_push =
        let n = neither _ _ possible in
        elim (cases_Bool (is_known (reach_between set.list (Date date) (Start k)))) [
          | inl known ↦ rw known (inr (refl, refl, n.0))
          | inr unknown ↦ rw unknown (inl (refl, refl, n.1))
        ]

  pub outside_push : is_surely (reach_between set.list) date k ≡ false → IsPush (reach_between set.list) date (outside_order (reach_between set.list) date k)
  outside_push unsure =
      elim (cases_Bool (is_known (reach_between set.list (Start k) (Date date)))) [
        | inl known ↦ rw known (inr (refl, refl, not_first _ _ unsure known))
        | inr unknown ↦ rw unknown (inl (refl, refl, unknown))
      ]
