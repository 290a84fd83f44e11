-- A relation is open exactly where it is possible.
use Rattle.std.proofs.Common.{suc, ◌≡◌, ◌<◌, ◌*◌, ℕ, ℤ, Bool, true, false, List, [], ◌∷◌, ◌++◌, length, arith, inl, inr, refl, subst, sym}
use Rattle.std.specs.Prelude.{◌&&◌, ◌⊎◌, not}
use Rattle.std.proofs.lemmas.Bool.{true≢false}
use Rattle.std.proofs.lemmas.Int.{ints}
use Rattle.order_laws.specs.declared.Order.{Order}
use Rattle.order_laws.specs.declared.Point.{Point}
use Rattle.order_laws.specs.declared.Point.TheVariants.{Start, End}
use Rattle.order_laws.specs.declared.Position.{Position}
use Rattle.order_laws.specs.Chains.{order_at}
use Rattle.order_laws.specs.Closure.{reach_between}
use Rattle.order_laws.specs.Placings.{IsSatisfied, IsConsistent, position_at}
use Rattle.order_laws.specs.Positions.{Stand}
use Rattle.order_laws.specs.Tables.{is_known, is_strict}
use Rattle.order_laws.proofs.Closure.{entry_follows}
use Rattle.order_laws.proofs.Placed.{consistent, follows_always}
use Rattle.order_extension.proofs.Further.{satisfied_both}
use Rattle.crm_allen.specs.declared.relations.Allen.{Allen}
use Rattle.crm_allen.specs.declared.relations.Allen.TheVariants.{Before, Meets, Overlaps, Finished, Contains, Starts, Equal, Started, During, Finishes, Overlapped, Met, After}
use Rattle.crm_allen.specs.Relations.{assumed, overlaps_orders, finished_orders, contains_orders, relation_orders}
use Rattle.crm_allen.specs.Possible.{may_be_before, may_be_at, may_overlap, may_be_finished, may_contain, is_open}
use Rattle.crm_allen.proofs.Growing.{IsLe, IsLt, IsAcyclic, IsStanding, lt_le, le_before, lt_before, orderly, never_lt, lt_or, satisfied_with, strict_added, level, level_added}

and_first : (p q : Bool) → (p && q) ≡ true → p ≡ true
and_first true q h = refl
and_first false q h = h

and_second : (p q : Bool) → (p && q) ≡ true → q ≡ true
and_second true q h = h
and_second false q h = absurd (true≢false (sym h))

and_both : (p q : Bool) → p ≡ true → q ≡ true → (p && q) ≡ true
and_both true q h k = k
and_both false q h k = h

refuted : (b : Bool) → not b ≡ true → b ≡ true → ⊥
refuted true h k = true≢false (sym h)
refuted false h k = true≢false (sym k)

closed_not : (b : Bool) → (b ≡ true → ⊥) → not b ≡ true
closed_not true h = absurd (h refl)
closed_not false h = refl

-- what is known after two weak orders that put x and y on one position
level_le : (orders : List Order) (x y u v : Point) → IsLe (level orders x y) u v → IsLe orders u v ⊎ (IsLe orders u x ⊎ IsLe orders u y)
level_le orders x y u v h =
    elim (le_before (assumed x y false ∷ orders) y x false u v h) [
      | inl e ↦ elim (le_before orders x y false u v e) [ inl k ↦ inl k | inr w ↦ inr (inl w.first) ]
      | inr w ↦ elim (le_before orders x y false u y w.first) [ inl k ↦ inr (inr k) | inr z ↦ inr (inl z.first) ]
    ]

level_lt : (orders : List Order) (x y u v : Point) → IsLt (level orders x y) u v → IsLt orders u v ⊎ (IsLe orders u x ⊎ IsLe orders u y)
level_lt orders x y u v h =
    elim (lt_before (assumed x y false ∷ orders) y x false u v h) [
      | inl e ↦ elim (lt_before orders x y false u v e) [ inl k ↦ inl k | inr w ↦ inr (inl w.first) ]
      | inr w ↦ elim (le_before orders x y false u y w.first) [ inl k ↦ inr (inr k) | inr z ↦ inr (inl z.first) ]
    ]

module _ (extents : ℕ) (dates : List ℤ) (orders : List Order) where
  first_of : (placing : List Position) (o : Order) (os : List Order) → IsSatisfied (o ∷ os) dates placing → IsStanding extents dates placing o
  first_of placing o os h = h 0 (omega arith)

  rest_of : (placing : List Position) (o : Order) (os : List Order) → IsSatisfied (o ∷ os) dates placing → IsSatisfied os dates placing
  rest_of placing o os h = λ n lt. h (suc n) (omega (arith, lt))

  none : (placing : List Position) → IsSatisfied [] dates placing
  none placing n lt = absurd (omega (arith, lt))

  with_more : (placing : List Position) (more : List Order) → IsSatisfied orders dates placing → IsSatisfied more dates placing → IsSatisfied (orders ++ more) dates placing
  with_more placing more h k = (satisfied_both dates placing orders more).1 (h, k)

  by_one : (o : Order) → IsAcyclic extents dates (o ∷ orders) → IsConsistent (orders ++ o ∷ []) dates extents
  by_one o good =
      let c : IsConsistent (o ∷ orders) dates extents = consistent (o ∷ orders) extents dates good.set good.acyclic in
      let p : List Position = c.0 in (
        p,
        (
          c.1.0,
          with_more p (o ∷ []) (rest_of p o orders c.1.1)
              (satisfied_with extents dates p o [] (first_of p o orders c.1.1) (none p)),
        ),
      )

  by_two : (o q : Order) → IsAcyclic extents dates (q ∷ o ∷ orders) → IsConsistent (orders ++ o ∷ q ∷ []) dates extents
  by_two o q good =
      let c : IsConsistent (q ∷ o ∷ orders) dates extents = consistent (q ∷ o ∷ orders) extents dates good.set good.acyclic in
      let p : List Position = c.0 in
      let d : IsSatisfied (o ∷ orders) dates p = rest_of p q (o ∷ orders) c.1.1 in (
        p,
        (
          c.1.0,
          with_more p (o ∷ q ∷ []) (rest_of p o orders d)
              (satisfied_with extents dates p o (q ∷ []) (first_of p o orders d)
              (satisfied_with extents dates p q [] (first_of p q (o ∷ orders) c.1.1) (none p))),
        ),
      )

  by_three : (o q r : Order) → IsAcyclic extents dates (r ∷ q ∷ o ∷ orders) → IsConsistent (orders ++ o ∷ q ∷ r ∷ []) dates extents
  by_three o q r good =
      let c : IsConsistent (r ∷ q ∷ o ∷ orders) dates extents = consistent (r ∷ q ∷ o ∷ orders) extents dates good.set good.acyclic in
      let p : List Position = c.0 in
      let d : IsSatisfied (q ∷ o ∷ orders) dates p = rest_of p r (q ∷ o ∷ orders) c.1.1 in
      let e : IsSatisfied (o ∷ orders) dates p = rest_of p q (o ∷ orders) d in (
        p,
        (
          c.1.0,
          with_more p (o ∷ q ∷ r ∷ []) (rest_of p o orders e)
              (satisfied_with extents dates p o (q ∷ r ∷ []) (first_of p o orders e)
              (satisfied_with extents dates p q (r ∷ []) (first_of p q (o ∷ orders) d)
              (satisfied_with extents dates p r [] (first_of p r (q ∷ o ∷ orders) c.1.1) (none p)))),
        ),
      )

  by_four : (o q r s : Order) → IsAcyclic extents dates (s ∷ r ∷ q ∷ o ∷ orders) → IsConsistent (orders ++ o ∷ q ∷ r ∷ s ∷ []) dates extents
  by_four o q r s good =
      let c : IsConsistent (s ∷ r ∷ q ∷ o ∷ orders) dates extents = consistent (s ∷ r ∷ q ∷ o ∷ orders) extents dates good.set good.acyclic in
      let p : List Position = c.0 in
      let d : IsSatisfied (r ∷ q ∷ o ∷ orders) dates p = rest_of p s (r ∷ q ∷ o ∷ orders) c.1.1 in
      let e : IsSatisfied (q ∷ o ∷ orders) dates p = rest_of p r (q ∷ o ∷ orders) d in
      let f : IsSatisfied (o ∷ orders) dates p = rest_of p q (o ∷ orders) e in (
        p,
        (
          c.1.0,
          with_more p (o ∷ q ∷ r ∷ s ∷ []) (rest_of p o orders f)
              (satisfied_with extents dates p o (q ∷ r ∷ s ∷ []) (first_of p o orders f)
              (satisfied_with extents dates p q (r ∷ s ∷ []) (first_of p q (o ∷ orders) e)
              (satisfied_with extents dates p r (s ∷ []) (first_of p r (q ∷ o ∷ orders) d)
              (satisfied_with extents dates p s [] (first_of p s (r ∷ q ∷ o ∷ orders) c.1.1) (none p))))),
        ),
      )

-- that nothing speaks against a comparison
module _ (orders : List Order) (x y : Point) where
  no_way_back : may_be_before orders x y ≡ true → IsLe orders y x → ⊥
  no_way_back h = refuted (is_known (reach_between orders y x)) h

  not_before : may_be_at orders x y ≡ true → IsLt orders x y → ⊥
  not_before h = refuted (is_strict (reach_between orders x y)) (and_first _ (not (is_strict (reach_between orders y x))) h)

  not_behind : may_be_at orders x y ≡ true → IsLt orders y x → ⊥
  not_behind h = refuted (is_strict (reach_between orders y x)) (and_second (not (is_strict (reach_between orders x y))) _ h)

module _ (extents : ℕ) (dates : List ℤ) (orders : List Order) (good : IsAcyclic extents dates orders) where
  starts_first : (k : ℕ) → k < extents → IsLt orders (Start k) (End k)
  starts_first k h =
      let f = good.set.starts_before_ends k h in
      let e : is_strict (reach_between orders (order_at orders f.0).low (order_at orders f.0).high) ≡ true =
      (orderly extents dates orders good).keeps_strictly f.0 f.1.0 f.1.3 in
      subst (λ (z : Point). IsLt orders (Start k) z) f.1.2 (subst (λ (z : Point). IsLt orders z (order_at orders f.0).high) f.1.1 e)

  no_end_first : (k : ℕ) → k < extents → IsLe orders (End k) (Start k) → ⊥
  no_end_first k h e = never_lt extents dates orders good (Start k) h (lt_or extents dates orders good (Start k) (End k) (Start k) h h h (starts_first k h) e)

  -- where an extent ends by the start of another, it starts before it
  start_before : (j k : ℕ) → j < extents → k < extents → IsLe orders (End j) (Start k) → IsLt orders (Start j) (Start k)
  start_before j k in_j in_k e = lt_or extents dates orders good (Start j) (End j) (Start k) in_j in_j in_k (starts_first j in_j) e

  module _ (a b : ℕ) (in_a : a < extents) (in_b : b < extents) where
    -- an extent that starts before another
    ahead : may_be_before orders (Start a) (Start b) ≡ true → IsAcyclic extents dates (assumed (Start a) (Start b) true ∷ orders)
    ahead h = strict_added extents dates orders good (Start a) (Start b) in_a in_b (no_way_back orders (Start a) (Start b) h)

    -- an extent that starts with another
    together : may_be_at orders (Start a) (Start b) ≡ true → IsAcyclic extents dates (level orders (Start a) (Start b))
    together h = level_added extents dates orders good (Start a) (Start b) in_a in_b (not_before orders (Start a) (Start b) h) (not_behind orders (Start a) (Start b) h)

    ahead_contra : may_be_before orders (Start a) (Start b) ≡ true → IsLe orders (End b) (Start a) → ⊥
    ahead_contra h e = no_way_back orders (Start a) (Start b) h (lt_le orders (Start b) (Start a) (start_before b a in_b in_a e))

    together_back : may_be_at orders (Start a) (Start b) ≡ true → IsLe orders (End b) (Start a) → ⊥
    together_back h e = not_behind orders (Start a) (Start b) h (start_before b a in_b in_a e)

    together_on : may_be_at orders (Start a) (Start b) ≡ true → IsLe orders (End a) (Start b) → ⊥
    together_on h e = not_before orders (Start a) (Start b) h (start_before a b in_a in_b e)

    possible_before : is_open orders a b Before ≡ true → IsConsistent (orders ++ relation_orders Before a b) dates extents
    possible_before h =
        by_one extents dates orders (assumed (End a) (Start b) true)
        (strict_added extents dates orders good (End a) (Start b) in_a in_b (no_way_back orders (End a) (Start b) h))

    possible_meets : is_open orders a b Meets ≡ true → IsConsistent (orders ++ relation_orders Meets a b) dates extents
    possible_meets h =
        by_two extents dates orders (assumed (End a) (Start b) false) (assumed (Start b) (End a) false)
        (level_added extents dates orders good (End a) (Start b) in_a in_b (not_before orders (End a) (Start b) h) (not_behind orders (End a) (Start b) h))

    module _ (first : may_be_before orders (Start a) (Start b) ≡ true) where
      led_good : IsAcyclic extents dates (assumed (Start a) (Start b) true ∷ orders)
      led_good = ahead first

      -- no way from the end of a to the end of b is new with that comparison, and none from the end of b is there
      led_from_a : (v : Point) → IsLe (assumed (Start a) (Start b) true ∷ orders) (End a) v → IsLe orders (End a) v
      led_from_a v e = elim (le_before orders (Start a) (Start b) true (End a) v e) [ inl k ↦ k | inr w ↦ absurd (no_end_first a in_a w.first) ]

      led_from_b : (v : Point) → IsLe (assumed (Start a) (Start b) true ∷ orders) (End b) v → IsLe orders (End b) v
      led_from_b v e = elim (le_before orders (Start a) (Start b) true (End b) v e) [ inl k ↦ k | inr w ↦ absurd (ahead_contra first w.first) ]

      led_lt_from_a : (v : Point) → IsLt (assumed (Start a) (Start b) true ∷ orders) (End a) v → IsLt orders (End a) v
      led_lt_from_a v e = elim (lt_before orders (Start a) (Start b) true (End a) v e) [ inl k ↦ k | inr w ↦ absurd (no_end_first a in_a w.first) ]

      led_lt_from_b : (v : Point) → IsLt (assumed (Start a) (Start b) true ∷ orders) (End b) v → IsLt orders (End b) v
      led_lt_from_b v e = elim (lt_before orders (Start a) (Start b) true (End b) v e) [ inl k ↦ k | inr w ↦ absurd (ahead_contra first w.first) ]

      possible_finished : may_be_at orders (End a) (End b) ≡ true → IsConsistent (orders ++ relation_orders Finished a b) dates extents
      possible_finished h =
          by_three extents dates orders (assumed (Start a) (Start b) true) (assumed (End a) (End b) false) (assumed (End b) (End a) false)
          (level_added extents dates (assumed (Start a) (Start b) true ∷ orders) led_good (End a) (End b) in_a in_b
          (λ e. not_before orders (End a) (End b) h (led_lt_from_a (End b) e))
          (λ e. not_behind orders (End a) (End b) h (led_lt_from_b (End a) e)))

      possible_contains : may_be_before orders (End b) (End a) ≡ true → IsConsistent (orders ++ relation_orders Contains a b) dates extents
      possible_contains h =
          by_two extents dates orders (assumed (Start a) (Start b) true) (assumed (End b) (End a) true)
          (strict_added extents dates (assumed (Start a) (Start b) true ∷ orders) led_good (End b) (End a) in_b in_a
          (λ e. no_way_back orders (End b) (End a) h (led_from_a (End b) e)))

      module _ (second : may_be_before orders (Start b) (End a) ≡ true) (third : may_be_before orders (End a) (End b) ≡ true) where
        inside : IsAcyclic extents dates (assumed (Start b) (End a) true ∷ assumed (Start a) (Start b) true ∷ orders)
        inside =
            strict_added extents dates (assumed (Start a) (Start b) true ∷ orders) led_good (Start b) (End a) in_b in_a
            (λ e. no_way_back orders (Start b) (End a) second (led_from_a (Start b) e))

        no_way : IsLe (assumed (Start b) (End a) true ∷ assumed (Start a) (Start b) true ∷ orders) (End b) (End a) → ⊥
        no_way e =
            elim (le_before (assumed (Start a) (Start b) true ∷ orders) (Start b) (End a) true (End b) (End a) e) [
              | inl k ↦ no_way_back orders (End a) (End b) third (led_from_b (End a) k)
              | inr w ↦ no_end_first b in_b (led_from_b (Start b) w.first)
            ]

        possible_overlaps : IsConsistent (orders ++ relation_orders Overlaps a b) dates extents
        possible_overlaps =
            by_three extents dates orders (assumed (Start a) (Start b) true) (assumed (Start b) (End a) true) (assumed (End a) (End b) true)
            (strict_added extents dates (assumed (Start b) (End a) true ∷ assumed (Start a) (Start b) true ∷ orders) inside (End a) (End b) in_a in_b no_way)

    module _ (first : may_be_at orders (Start a) (Start b) ≡ true) where
      same_good : IsAcyclic extents dates (level orders (Start a) (Start b))
      same_good = together first

      same_from_a : (v : Point) → IsLe (level orders (Start a) (Start b)) (End a) v → IsLe orders (End a) v
      same_from_a v e = elim (level_le orders (Start a) (Start b) (End a) v e) [ inl k ↦ k | inr (inl k) ↦ absurd (no_end_first a in_a k) | inr (inr k) ↦ absurd (together_on first k) ]

      same_from_b : (v : Point) → IsLe (level orders (Start a) (Start b)) (End b) v → IsLe orders (End b) v
      same_from_b v e = elim (level_le orders (Start a) (Start b) (End b) v e) [ inl k ↦ k | inr (inl k) ↦ absurd (together_back first k) | inr (inr k) ↦ absurd (no_end_first b in_b k) ]

      same_lt_from_a : (v : Point) → IsLt (level orders (Start a) (Start b)) (End a) v → IsLt orders (End a) v
      same_lt_from_a v e = elim (level_lt orders (Start a) (Start b) (End a) v e) [ inl k ↦ k | inr (inl k) ↦ absurd (no_end_first a in_a k) | inr (inr k) ↦ absurd (together_on first k) ]

      same_lt_from_b : (v : Point) → IsLt (level orders (Start a) (Start b)) (End b) v → IsLt orders (End b) v
      same_lt_from_b v e = elim (level_lt orders (Start a) (Start b) (End b) v e) [ inl k ↦ k | inr (inl k) ↦ absurd (together_back first k) | inr (inr k) ↦ absurd (no_end_first b in_b k) ]

      possible_starts : may_be_before orders (End a) (End b) ≡ true → IsConsistent (orders ++ relation_orders Starts a b) dates extents
      possible_starts h =
          by_three extents dates orders (assumed (Start a) (Start b) false) (assumed (Start b) (Start a) false) (assumed (End a) (End b) true)
          (strict_added extents dates (level orders (Start a) (Start b)) same_good (End a) (End b) in_a in_b
          (λ e. no_way_back orders (End a) (End b) h (same_from_b (End a) e)))

      possible_started : may_be_before orders (End b) (End a) ≡ true → IsConsistent (orders ++ relation_orders Started a b) dates extents
      possible_started h =
          by_three extents dates orders (assumed (Start a) (Start b) false) (assumed (Start b) (Start a) false) (assumed (End b) (End a) true)
          (strict_added extents dates (level orders (Start a) (Start b)) same_good (End b) (End a) in_b in_a
          (λ e. no_way_back orders (End b) (End a) h (same_from_a (End b) e)))

      possible_equal : may_be_at orders (End a) (End b) ≡ true → IsConsistent (orders ++ relation_orders Equal a b) dates extents
      possible_equal h =
          by_four extents dates orders (assumed (Start a) (Start b) false) (assumed (Start b) (Start a) false) (assumed (End a) (End b) false) (assumed (End b) (End a) false)
          (level_added extents dates (level orders (Start a) (Start b)) same_good (End a) (End b) in_a in_b
          (λ e. not_before orders (End a) (End b) h (same_lt_from_a (End b) e))
          (λ e. not_behind orders (End a) (End b) h (same_lt_from_b (End a) e)))

  overlap : (a b : ℕ) → a < extents → b < extents → may_overlap orders a b ≡ true → IsConsistent (orders ++ overlaps_orders a b) dates extents
  overlap a b in_a in_b h =
      let t : (may_be_before orders (Start a) (Start b) && may_be_before orders (Start b) (End a)) ≡ true = and_first _ (may_be_before orders (End a) (End b)) h in
      possible_overlaps a b in_a in_b (and_first _ (may_be_before orders (Start b) (End a)) t) (and_second (may_be_before orders (Start a) (Start b)) _ t)
      (and_second (may_be_before orders (Start a) (Start b) && may_be_before orders (Start b) (End a)) _ h)

  finish : (a b : ℕ) → a < extents → b < extents → may_be_finished orders a b ≡ true → IsConsistent (orders ++ finished_orders a b) dates extents
  finish a b in_a in_b h = possible_finished a b in_a in_b (and_first _ (may_be_at orders (End a) (End b)) h) (and_second (may_be_before orders (Start a) (Start b)) _ h)

  contain : (a b : ℕ) → a < extents → b < extents → may_contain orders a b ≡ true → IsConsistent (orders ++ contains_orders a b) dates extents
  contain a b in_a in_b h = possible_contains a b in_a in_b (and_first _ (may_be_before orders (End b) (End a)) h) (and_second (may_be_before orders (Start a) (Start b)) _ h)

  pub open_possible : (r : Allen) (a b : ℕ) → a < extents → b < extents → is_open orders a b r ≡ true → IsConsistent (orders ++ relation_orders r a b) dates extents
  open_possible Before a b in_a in_b h = possible_before a b in_a in_b h
  open_possible Meets a b in_a in_b h = possible_meets a b in_a in_b h
  open_possible Overlaps a b in_a in_b h = overlap a b in_a in_b h
  open_possible Finished a b in_a in_b h = finish a b in_a in_b h
  open_possible Contains a b in_a in_b h = contain a b in_a in_b h
  open_possible Starts a b in_a in_b h = possible_starts a b in_a in_b (and_first _ (may_be_before orders (End a) (End b)) h) (and_second (may_be_at orders (Start a) (Start b)) _ h)
  open_possible Equal a b in_a in_b h = possible_equal a b in_a in_b (and_first _ (may_be_at orders (End a) (End b)) h) (and_second (may_be_at orders (Start a) (Start b)) _ h)
  open_possible Started a b in_a in_b h = possible_started a b in_a in_b (and_first _ (may_be_before orders (End b) (End a)) h) (and_second (may_be_at orders (Start a) (Start b)) _ h)
  open_possible During a b in_a in_b h = contain b a in_b in_a h
  open_possible Finishes a b in_a in_b h = finish b a in_b in_a h
  open_possible Overlapped a b in_a in_b h = overlap b a in_b in_a h
  open_possible Met a b in_a in_b h = possible_meets b a in_b in_a h
  open_possible After a b in_a in_b h = possible_before b a in_b in_a h

-- what a placing of the orders has, nothing that follows speaks against
module _ (extents : ℕ) (dates : List ℤ) (orders : List Order) (placing : List Position) (size : length placing ≡ 2 * extents) (sat : IsSatisfied orders dates placing) where
  never_back : (p q : Position) → Stand true p q → Stand false q p → ⊥
  never_back p q h k = grind (arith, ints)

  placed_before : (x y : Point) → Stand true (position_at dates placing x) (position_at dates placing y) → may_be_before orders x y ≡ true
  placed_before x y h =
      closed_not (is_known (reach_between orders y x))
      (λ e. never_back (position_at dates placing x) (position_at dates placing y) h
      (follows_always orders extents dates y x false (entry_follows orders y x false e) placing size sat))

  placed_at : (x y : Point) → Stand false (position_at dates placing x) (position_at dates placing y) → Stand false (position_at dates placing y) (position_at dates placing x) → may_be_at orders x y ≡ true
  placed_at x y h k =
      and_both _ _
      (closed_not (is_strict (reach_between orders x y))
      (λ e. never_back (position_at dates placing x) (position_at dates placing y) (follows_always orders extents dates x y true (entry_follows orders x y true e) placing size sat) k))
      (closed_not (is_strict (reach_between orders y x))
      (λ e. never_back (position_at dates placing y) (position_at dates placing x) (follows_always orders extents dates y x true (entry_follows orders y x true e) placing size sat) h))

  overlapping : (a b : ℕ) → IsSatisfied (overlaps_orders a b) dates placing → may_overlap orders a b ≡ true
  overlapping a b h =
      and_both _ _
      (and_both _ _ (placed_before (Start a) (Start b) (h 0 (omega arith))) (placed_before (Start b) (End a) (h 1 (omega arith))))
      (placed_before (End a) (End b) (h 2 (omega arith)))

  finishing : (a b : ℕ) → IsSatisfied (finished_orders a b) dates placing → may_be_finished orders a b ≡ true
  finishing a b h = and_both _ _ (placed_before (Start a) (Start b) (h 0 (omega arith))) (placed_at (End a) (End b) (h 1 (omega arith)) (h 2 (omega arith)))

  containing : (a b : ℕ) → IsSatisfied (contains_orders a b) dates placing → may_contain orders a b ≡ true
  containing a b h = and_both _ _ (placed_before (Start a) (Start b) (h 0 (omega arith))) (placed_before (End b) (End a) (h 1 (omega arith)))

  pub placed_open : (r : Allen) (a b : ℕ) → IsSatisfied (relation_orders r a b) dates placing → is_open orders a b r ≡ true
  placed_open Before a b h = placed_before (End a) (Start b) (h 0 (omega arith))
  placed_open Meets a b h = placed_at (End a) (Start b) (h 0 (omega arith)) (h 1 (omega arith))
  placed_open Overlaps a b h = overlapping a b h
  placed_open Finished a b h = finishing a b h
  placed_open Contains a b h = containing a b h
  placed_open Starts a b h = and_both _ _ (placed_at (Start a) (Start b) (h 0 (omega arith)) (h 1 (omega arith))) (placed_before (End a) (End b) (h 2 (omega arith)))
  placed_open Equal a b h = and_both _ _ (placed_at (Start a) (Start b) (h 0 (omega arith)) (h 1 (omega arith))) (placed_at (End a) (End b) (h 2 (omega arith)) (h 3 (omega arith)))
  placed_open Started a b h = and_both _ _ (placed_at (Start a) (Start b) (h 0 (omega arith)) (h 1 (omega arith))) (placed_before (End b) (End a) (h 2 (omega arith)))
  placed_open During a b h = containing b a h
  placed_open Finishes a b h = finishing b a h
  placed_open Overlapped a b h = overlapping b a h
  placed_open Met a b h = placed_at (End b) (Start a) (h 0 (omega arith)) (h 1 (omega arith))
  placed_open After a b h = placed_before (End b) (Start a) (h 0 (omega arith))
