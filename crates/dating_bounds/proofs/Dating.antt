-- A set with an instant among its dates is a set, which the same placings satisfy.
use Rattle.std.proofs.Common.{zero, suc, ◌≡◌, ℕ, ℤ, pos, List, [], ◌∷◌, ◌++◌, true, false, ◌+◌, ◌-◌, ◌<◌, ◌≤◌, length, get_or, take, drop, map, arith, inl, inr, refl, subst, ap, sym, ◌∙◌, length-append}
use Rattle.std.specs.Prelude.{◌<ℤ◌, ◌↔◌, nat_lt, cond}
use Rattle.std.proofs.lemmas.Bool.{cases_Bool, cases_eq, cases_lt, lt-ltb, le-ltb}
use Rattle.std.proofs.lemmas.List.{get_or_append_left, get_or-append-add, get_or-map, length-map}
use Rattle.order_laws.specs.declared.Order.{Order}
use Rattle.order_laws.specs.declared.Point.{Point}
use Rattle.order_laws.specs.declared.Point.TheVariants.{Start, End, Date}
use Rattle.order_laws.specs.declared.Position.{Position}
use Rattle.order_laws.specs.Chains.{order_at, no_order, HasCycle}
use Rattle.order_laws.specs.Placings.{IsSatisfied, position_at}
use Rattle.order_laws.specs.Positions.{Stand}
use Rattle.order_laws.specs.Tables.{IsPoint, IsOrderSet}
use Rattle.order_laws.proofs.Hold.{cycle_refutes}
use Rattle.order_laws.proofs.Placed.{consistent}
use Rattle.order_core.specs.Sets.{Orders}
use Rattle.order_extension.proofs.Further.{each_joined, Stands}
use Rattle.dating_bounds.specs.Dated.{place_of, is_dated, moved, renamed, date_order, neighbour_orders, dated}
use Rattle.dating_bounds.proofs.Moving.{length-inserted, inserted_left, inserted_here, inserted_right, position_moved, moved_in_range, place_within, earlier_dates, later_date, same_date}

most_two : (at count : ℕ) → length (neighbour_orders at count) ≤ 2
most_two at count =
    elim (cases_lt 0 at) [
      | inl lt ↦ rw (lt-ltb 0 at lt) (elim (cases_lt at count) [
        | inl more ↦ rw (lt-ltb at count more) (omega arith)
        | inr least ↦ rw (le-ltb at count least) (omega arith)
      ])
      | inr ge ↦ rw (le-ltb 0 at ge) (elim (cases_lt at count) [
        | inl more ↦ rw (lt-ltb at count more) (omega arith)
        | inr least ↦ rw (le-ltb at count least) (omega arith)
      ])
    ]

each_one : (P : Order → Type 0) (x : Order) → P x → (n : ℕ) → n < length (x ∷ []) → P (order_at (x ∷ []) n)
each_one P x p zero h = p
each_one P x p (suc n) h = absurd (omega arith)

renamed_at : (at : ℕ) (list : List Order) (n : ℕ) → n < length list → order_at (map (renamed at) list) n ≡ renamed at (order_at list n)
renamed_at at list n h = get_or-map (renamed at) list n no_order no_order h

-- a new order is one of the two
each_neighbour : (P : Order → Type 0) (at count : ℕ) → at ≤ count → (0 < at → P (date_order (at - 1) at)) → (at < count → P (date_order at (at + 1))) →
    (n : ℕ) → n < length (neighbour_orders at count) → P (order_at (neighbour_orders at count) n)
each_neighbour P at count within left right =
    each_joined P (cond (nat_lt 0 at) (date_order (at - 1) at ∷ []) []) (cond (nat_lt at count) (date_order at (at + 1) ∷ []) [])
    (elim (cases_lt 0 at) [
      | inl lt ↦ rw (lt-ltb 0 at lt) (each_one P (date_order (at - 1) at) (left lt))
      | inr ge ↦ rw (le-ltb 0 at ge) (λ n h. absurd (omega arith))
    ])
    (elim (cases_lt at count) [
      | inl lt ↦ rw (lt-ltb at count lt) (each_one P (date_order at (at + 1)) (right lt))
      | inr ge ↦ rw (le-ltb at count ge) (λ n h. absurd (omega arith))
    ])

each_renamed : (P : Order → Type 0) (at : ℕ) (list : List Order) → ((n : ℕ) → n < length list → P (renamed at (order_at list n))) →
    (n : ℕ) → n < length (map (renamed at) list) → P (order_at (map (renamed at) list) n)
each_renamed P at list all n h =
    let low : n < length list = omega (arith, length-map list (renamed at)) in
    subst P (sym (renamed_at at list n low)) (all n low)

-- where the two new orders stand behind a list
left_at : (list : List Order) (at count : ℕ) → 0 < at →
    (length list < length (list ++ neighbour_orders at count)) × (order_at (list ++ neighbour_orders at count) (length list) ≡ date_order (at - 1) at)
left_at list at count h =
    let e : nat_lt 0 at ≡ true = lt-ltb 0 at h in (
      rw e (omega (arith, length-append list ((date_order (at - 1) at ∷ []) ++ cond (nat_lt at count) (date_order at (at + 1) ∷ []) []))),
      rw e (let P : ℕ → Type 0 = λ n. order_at (list ++ (date_order (at - 1) at ∷ cond (nat_lt at count) (date_order at (at + 1) ∷ []) [])) n ≡ date_order (at - 1) at in
          let s : length list + 0 ≡ length list = omega arith in
          subst P s (get_or-append-add list (date_order (at - 1) at ∷ cond (nat_lt at count) (date_order at (at + 1) ∷ []) []) 0 no_order)),
    )

right_at : (list : List Order) (at count : ℕ) → at < count →
    (n : ℕ) × ((n < length (list ++ neighbour_orders at count)) × (order_at (list ++ neighbour_orders at count) n ≡ date_order at (at + 1)))
right_at list at count h =
    let e : nat_lt at count ≡ true = lt-ltb at count h in
    elim (cases_lt 0 at) [
      | inl lt ↦ (
        length list + 1,
        (let f : nat_lt 0 at ≡ true = lt-ltb 0 at lt in (
          rw (f, e) (omega (arith, length-append list (date_order (at - 1) at ∷ date_order at (at + 1) ∷ []))),
          rw (f, e) (get_or-append-add list (date_order (at - 1) at ∷ date_order at (at + 1) ∷ []) 1 no_order),
        )),
      )
      | inr ge ↦ (
        length list + 0,
        (let f : nat_lt 0 at ≡ false = le-ltb 0 at ge in (
          rw (f, e) (omega (arith, length-append list (date_order at (at + 1) ∷ []))),
          rw (f, e) (get_or-append-add list (date_order at (at + 1) ∷ []) 0 no_order),
        )),
      )
    ]

-- an order of the old list by its new names
kept_order : (list : List Order) (at count : ℕ) (n : ℕ) → n < length list →
    (n < length (map (renamed at) list ++ neighbour_orders at count)) × (order_at (map (renamed at) list ++ neighbour_orders at count) n ≡ renamed at (order_at list n))
kept_order list at count n h = (
  omega (arith, length-append (map (renamed at) list) (neighbour_orders at count), length-map list (renamed at)),
  get_or_append_left (map (renamed at) list) (neighbour_orders at count) no_order n (omega (arith, length-map list (renamed at))) ∙ renamed_at at list n h,
)

pub length-inserted_list : (list : List Order) (at count : ℕ) → length (map (renamed at) list ++ neighbour_orders at count) ≤ length list + 2
length-inserted_list list at count =
    omega (arith, length-append (map (renamed at) list) (neighbour_orders at count), length-map list (renamed at), most_two at count)

-- the list has a strict order from the one date to the other
abbrev HasOrder : List Order → Point → Point → Type 0
HasOrder list low high = (n : ℕ) × ((n < length list) × ((order_at list n).low ≡ low) × ((order_at list n).high ≡ high) × ((order_at list n).strict ≡ true))

module _ (extents : ℕ) (dates : List ℤ) (list : List Order) (set : IsOrderSet list extents dates) (at : ℕ) (t : ℤ) (within : at ≤ length dates)
    (earlier : (k : ℕ) → k < at → get_or dates k (pos 0) <ℤ t) (later : at < length dates → t <ℤ get_or dates at (pos 0)) where
  ascending_new : (k : ℕ) → k + 1 < length (take at dates ++ t ∷ drop at dates) →
      get_or (take at dates ++ t ∷ drop at dates) k (pos 0) <ℤ get_or (take at dates ++ t ∷ drop at dates) (k + 1) (pos 0)
  ascending_new k h =
      elim (cases_lt (k + 1) at) [
        | inl lt ↦ rw (inserted_left dates at t within k (omega arith), inserted_left dates at t within (k + 1) lt) (set.ascending k (omega arith))
        | inr ge ↦ elim (cases_eq (k + 1) at) [
          | inl same ↦
              (let P : ℕ → Type 0 = λ n. get_or (take at dates ++ t ∷ drop at dates) k (pos 0) <ℤ get_or (take at dates ++ t ∷ drop at dates) n (pos 0) in
              subst P (sym same) (rw (inserted_left dates at t within k (omega arith), inserted_here dates at t within) (earlier k (omega arith))))
          | inr other ↦ elim (cases_eq k at) [
            | inl here ↦
                (let P : ℕ → Type 0 = λ n. get_or (take at dates ++ t ∷ drop at dates) n (pos 0) <ℤ get_or (take at dates ++ t ∷ drop at dates) (n + 1) (pos 0) in
                subst P (sym here) (rw (inserted_here dates at t within, inserted_right dates at t within at (omega arith)) (later (omega (arith, length-inserted dates at t within)))))
            | inr behind ↦
                (let P : ℕ → Type 0 = λ n. get_or (take at dates ++ t ∷ drop at dates) n (pos 0) <ℤ get_or (take at dates ++ t ∷ drop at dates) (n + 1) (pos 0) in
                let e : (k - 1) + 1 ≡ k = omega arith in
                subst P e (rw (inserted_right dates at t within (k - 1) (omega arith), inserted_right dates at t within ((k - 1) + 1) (omega arith))
                (set.ascending (k - 1) (omega (arith, length-inserted dates at t within)))))
          ]
        ]
      ]

  neighbours_new : (k : ℕ) → k + 1 < length (take at dates ++ t ∷ drop at dates) →
      HasOrder (map (renamed at) list ++ neighbour_orders at (length dates)) (Date k) (Date (k + 1))
  neighbours_new k h =
      elim (cases_lt (k + 1) at) [
        | inl lt ↦
            (let old = set.neighbours k (omega arith) in
            let new = kept_order list at (length dates) old.0 old.1.0 in
            let low : moved at (Date k) ≡ Date k = rw (lt-ltb k at (omega arith)) refl in
            let high : moved at (Date (k + 1)) ≡ Date (k + 1) = rw (lt-ltb (k + 1) at lt) refl in (
              old.0,
              (
                new.0,
                ap (λ (o : Order). o.low) new.1 ∙ ap (moved at) old.1.1 ∙ low,
                ap (λ (o : Order). o.high) new.1 ∙ ap (moved at) old.1.2 ∙ high,
                ap (λ (o : Order). o.strict) new.1 ∙ old.1.3,
              ),
            ))
        | inr ge ↦ elim (cases_eq (k + 1) at) [
          | inl same ↦
              (let new = left_at (map (renamed at) list) at (length dates) (omega arith) in
              let e : at - 1 ≡ k = omega arith in (
                length (map (renamed at) list),
                (
                  new.0,
                  ap (λ (o : Order). o.low) new.1 ∙ ap Date e,
                  ap (λ (o : Order). o.high) new.1 ∙ ap Date (sym same),
                  ap (λ (o : Order). o.strict) new.1,
                ),
              ))
          | inr other ↦ elim (cases_eq k at) [
            | inl here ↦
                (let new = right_at (map (renamed at) list) at (length dates) (omega (arith, here, length-inserted dates at t within)) in
                let e : at + 1 ≡ k + 1 = omega (arith, here) in (
                  new.0,
                  (
                    new.1.0,
                    ap (λ (o : Order). o.low) new.1.1 ∙ ap Date (sym here),
                    ap (λ (o : Order). o.high) new.1.1 ∙ ap Date e,
                    ap (λ (o : Order). o.strict) new.1.1,
                  ),
                ))
            | inr behind ↦
                (let old = set.neighbours (k - 1) (omega (arith, length-inserted dates at t within)) in
                let new = kept_order list at (length dates) old.0 old.1.0 in
                let d : (k - 1) + 1 ≡ k = omega arith in
                let low : moved at (Date (k - 1)) ≡ Date k = rw (le-ltb (k - 1) at (omega arith)) (ap Date d) in
                let f : ((k - 1) + 1) + 1 ≡ k + 1 = omega arith in
                let high : moved at (Date ((k - 1) + 1)) ≡ Date (k + 1) = rw (le-ltb ((k - 1) + 1) at (omega arith)) (ap Date f) in (
                  old.0,
                  (
                    new.0,
                    ap (λ (o : Order). o.low) new.1 ∙ ap (moved at) old.1.1 ∙ low,
                    ap (λ (o : Order). o.high) new.1 ∙ ap (moved at) old.1.2 ∙ high,
                    ap (λ (o : Order). o.strict) new.1 ∙ old.1.3,
                  ),
                ))
          ]
        ]
      ]

  pub inserted_is_set : IsOrderSet (map (renamed at) list ++ neighbour_orders at (length dates)) extents (take at dates ++ t ∷ drop at dates)
  inserted_is_set = record {
    low_in_range = each_joined (λ (o : Order). IsPoint extents (length (take at dates ++ t ∷ drop at dates)) o.low) (map (renamed at) list) (neighbour_orders at (length dates))
        (each_renamed (λ (o : Order). IsPoint extents (length (take at dates ++ t ∷ drop at dates)) o.low) at list (λ n h. moved_in_range dates at t within extents (order_at list n).low (set.low_in_range n h)))
        (each_neighbour (λ (o : Order). IsPoint extents (length (take at dates ++ t ∷ drop at dates)) o.low) at (length dates) within
        (λ h. omega (arith, length-inserted dates at t within)) (λ h. omega (arith, length-inserted dates at t within)));
    high_in_range = each_joined (λ (o : Order). IsPoint extents (length (take at dates ++ t ∷ drop at dates)) o.high) (map (renamed at) list) (neighbour_orders at (length dates))
        (each_renamed (λ (o : Order). IsPoint extents (length (take at dates ++ t ∷ drop at dates)) o.high) at list (λ n h. moved_in_range dates at t within extents (order_at list n).high (set.high_in_range n h)))
        (each_neighbour (λ (o : Order). IsPoint extents (length (take at dates ++ t ∷ drop at dates)) o.high) at (length dates) within
        (λ h. omega (arith, length-inserted dates at t within)) (λ h. omega (arith, length-inserted dates at t within)));
    ascending = ascending_new;
    neighbours = neighbours_new;
    starts_before_ends = λ k h.
        (let old = set.starts_before_ends k h in
        let new = kept_order list at (length dates) old.0 old.1.0 in (
          old.0,
          (
            new.0,
            ap (λ (o : Order). o.low) new.1 ∙ ap (moved at) old.1.1,
            ap (λ (o : Order). o.high) new.1 ∙ ap (moved at) old.1.2,
            ap (λ (o : Order). o.strict) new.1 ∙ old.1.3,
          ),
        ));
  }

  -- the same placings satisfy both
  pub satisfied_new : (placing : List Position) → IsSatisfied list dates placing →
      IsSatisfied (map (renamed at) list ++ neighbour_orders at (length dates)) (take at dates ++ t ∷ drop at dates) placing
  satisfied_new placing sat =
      each_joined (Stands (take at dates ++ t ∷ drop at dates) placing) (map (renamed at) list) (neighbour_orders at (length dates))
      (each_renamed (Stands (take at dates ++ t ∷ drop at dates) placing) at list (λ n h.
      (let P : Position → Type 0 = λ z. Stand (order_at list n).strict z (position_at (take at dates ++ t ∷ drop at dates) placing (moved at (order_at list n).high)) in
      let Q : Position → Type 0 = λ z. Stand (order_at list n).strict (position_at dates placing (order_at list n).low) z in
      subst P (sym (position_moved dates at t within placing (order_at list n).low)) (subst Q (sym (position_moved dates at t within placing (order_at list n).high)) (sat n h)))))
      (each_neighbour (Stands (take at dates ++ t ∷ drop at dates) placing) at (length dates) within
      (λ h. inl (rw (inserted_left dates at t within (at - 1) (omega arith), inserted_here dates at t within) (earlier (at - 1) (omega arith))))
      (λ h. inl (rw (inserted_here dates at t within, inserted_right dates at t within at (omega arith)) (later h))))

  pub satisfied_old : (placing : List Position) →
      IsSatisfied (map (renamed at) list ++ neighbour_orders at (length dates)) (take at dates ++ t ∷ drop at dates) placing → IsSatisfied list dates placing
  satisfied_old placing sat n h =
      let new = kept_order list at (length dates) n h in
      let P : Position → Type 0 = λ z. Stand (order_at list n).strict z (position_at dates placing (order_at list n).high) in
      let Q : Position → Type 0 = λ z. Stand (order_at list n).strict (position_at (take at dates ++ t ∷ drop at dates) placing (moved at (order_at list n).low)) z in
      subst P (position_moved dates at t within placing (order_at list n).low) (subst Q (position_moved dates at t within placing (order_at list n).high)
      (subst (Stands (take at dates ++ t ∷ drop at dates) placing) new.1 (sat n new.0)))

module _ (set : Orders) (keeps : IsOrderSet set.list set.extents set.dates) (t : ℤ) where
  pub dated_is_set : IsOrderSet (dated set t).list (dated set t).extents (dated set t).dates
  dated_is_set =
      elim (cases_Bool (is_dated set.dates t)) [
        | inl old ↦ rw old keeps
        | inr new ↦ rw new (inserted_is_set set.extents set.dates set.list keeps (place_of set.dates t) t (place_within set.dates t) (earlier_dates set.dates t) (later_date set.dates t new))
      ]

  pub dated_extents : (dated set t).extents ≡ set.extents
  dated_extents =
      elim (cases_Bool (is_dated set.dates t)) [
        | inl old ↦ rw old refl
        | inr new ↦ rw new refl
      ]

  pub dated_satisfied : (placing : List Position) → IsSatisfied (dated set t).list (dated set t).dates placing ↔ IsSatisfied set.list set.dates placing
  dated_satisfied placing =
      elim (cases_Bool (is_dated set.dates t)) [
        | inl old ↦ rw old (λ s. s, λ s. s)
        | inr new ↦ rw new (
          satisfied_old set.extents set.dates set.list keeps (place_of set.dates t) t (place_within set.dates t) (earlier_dates set.dates t) (later_date set.dates t new) placing,
          satisfied_new set.extents set.dates set.list keeps (place_of set.dates t) t (place_within set.dates t) (earlier_dates set.dates t) (later_date set.dates t new) placing,
        )
      ]

  pub none_dated : (HasCycle set.list → ⊥) → HasCycle (dated set t).list → ⊥
  none_dated none cycle =
      let old = consistent set.list set.extents set.dates keeps none in
      cycle_refutes (dated set t).list (dated set t).dates set.extents cycle (old.0, (old.1.0, (dated_satisfied old.0).1 old.1.1))

  pub none_undated : (HasCycle (dated set t).list → ⊥) → HasCycle set.list → ⊥
  none_undated none cycle =
      let new = consistent (dated set t).list (dated set t).extents (dated set t).dates dated_is_set none in
      cycle_refutes set.list set.dates set.extents cycle (new.0, (omega (arith, new.1.0, dated_extents), (dated_satisfied new.0).0 new.1.1))

  -- the date of the instant
  pub dated_at : (place_of set.dates t < length (dated set t).dates) × (get_or (dated set t).dates (place_of set.dates t) (pos 0) ≡ t)
  dated_at =
      elim (cases_Bool (is_dated set.dates t)) [
        | inl old ↦ rw old (same_date set.dates t old)
        | inr new ↦ rw new (
          omega (arith, place_within set.dates t, length-inserted set.dates (place_of set.dates t) t (place_within set.dates t)),
          inserted_here set.dates (place_of set.dates t) t (place_within set.dates t),
        )
      ]

  -- where a boundary stands does not depend on the dates
  pub dated_position : (placing : List Position) (k : ℕ) →
      (position_at (dated set t).dates placing (Start k) ≡ position_at set.dates placing (Start k))
      × (position_at (dated set t).dates placing (End k) ≡ position_at set.dates placing (End k))
  dated_position placing k = (refl, refl)
