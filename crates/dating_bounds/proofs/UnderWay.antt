-- Whether an extent is under way at a date: what follows decides, and the two placings show what may be.
use Rattle.std.proofs.Common.{zero, suc, ◌≡◌, ℕ, ℤ, pos, List, [], ◌∷◌, ◌++◌, Bool, true, false, ◌*◌, ◌<◌, length, get_or, arith, inl, inr, refl, subst, sym, ◌∙◌}
use Rattle.std.specs.Prelude.{◌&&◌, ◌||◌}
use Rattle.std.proofs.lemmas.Bool.{cases_Bool, true≢false}
use Rattle.order_laws.specs.declared.Order.{Order}
use Rattle.order_laws.specs.declared.Point.{Point}
use Rattle.order_laws.specs.declared.Point.TheVariants.{Start, End, Date}
use Rattle.order_laws.specs.declared.Position.{Position}
use Rattle.order_laws.specs.declared.Reach.{Reach}
use Rattle.order_laws.specs.declared.Reach.TheVariants.{None as Nothing, Le, Lt}
use Rattle.order_laws.specs.Chains.{order_at, HasCycle}
use Rattle.order_laws.specs.Closure.{reach_between}
use Rattle.order_laws.specs.Placings.{IsSatisfied, position_at}
use Rattle.order_laws.specs.Positions.{Stand, IsBefore}
use Rattle.order_laws.specs.Tables.{is_known, is_strict, IsPoint, IsOrderSet, IsOrderly}
use Rattle.order_laws.specs.Wider.{wider, widened, plain_placing, delaying_placing}
use Rattle.order_laws.proofs.Hold.{stand_twice, never_before_self, cycle_refutes}
use Rattle.order_laws.proofs.Closure.{follows_entry}
use Rattle.order_laws.proofs.LawD.{known_of_strict}
use Rattle.order_laws.proofs.Placed.{computed_orderly, plain_satisfies, delaying_satisfies, delayed_before, wide, built_length}
use Rattle.order_core.specs.Sets.{Orders, AreInRange}
use Rattle.order_extension.proofs.Further.{Stands, satisfied_both, further_is_set}
use Rattle.dating_bounds.specs.Moment.{IsUnderWay, IsPlacingOf, IsDuring, is_surely, is_never, order_to, inside_orders, outside_order, plain_with, during_of}
use Rattle.dating_bounds.proofs.Halves.{is_false}
use Rattle.dating_bounds.proofs.Standing.{at_or_before_date}
use Rattle.dating_bounds.proofs.Bounding.{always_of, good}

pub both : (a b : Bool) → (a && b) ≡ true → (a ≡ true) × (b ≡ true)
both true true h = (refl, refl)
both true false h = absurd (true≢false (sym h))
both false b h = absurd (true≢false (sym h))

pub neither : (a b : Bool) → (a || b) ≡ false → (a ≡ false) × (b ≡ false)
neither true b h = absurd (true≢false h)
neither false b h = (refl, h)

pub not_first : (a b : Bool) → (a && b) ≡ false → a ≡ true → b ≡ false
not_first true b h e = h
not_first false b h e = absurd (true≢false (sym e))

-- two positions cannot stand both ways
pub not_both_ways : (p q : Position) → IsBefore p q → Stand false q p → ⊥
not_both_ways p q h k = never_before_self p (stand_twice true false p q p h k)

abbrev pub Upon : ℤ → Position
Upon t = record { instant = t; rank = 0 }

ended : (dates : List ℤ) (placing : List Position) (k : ℕ) (t : ℤ) → IsUnderWay dates placing k t → Stand false (position_at dates placing (End k)) (Upon t) → ⊥
ended dates placing k t way over = not_both_ways (Upon t) (position_at dates placing (End k)) way.unended over

unstarted : (dates : List ℤ) (placing : List Position) (k : ℕ) (t : ℤ) → IsUnderWay dates placing k t → Stand true (Upon t) (position_at dates placing (Start k)) → ⊥
unstarted dates placing k t way late = not_both_ways (Upon t) (position_at dates placing (Start k)) late way.started

one_order : (o : Order) (dates : List ℤ) (placing : List Position) → Stands dates placing o → IsSatisfied (o ∷ []) dates placing
one_order o dates placing s zero h = s
one_order o dates placing s (suc n) h = absurd (omega arith)

two_orders : (o r : Order) (dates : List ℤ) (placing : List Position) → Stands dates placing o → Stands dates placing r → IsSatisfied (o ∷ r ∷ []) dates placing
two_orders o r dates placing s z zero h = s
two_orders o r dates placing s z (suc zero) h = z
two_orders o r dates placing s z (suc (suc n)) h = absurd (omega arith)

pub one_in_range : (extents dates : ℕ) (o : Order) → IsPoint extents dates o.low → IsPoint extents dates o.high → AreInRange extents dates (o ∷ [])
one_in_range extents dates o low high = record {
  low = λ n. elim n as (λ m. m < length (o ∷ []) → IsPoint extents dates (order_at (o ∷ []) m).low) [ zero ↦ λ h. low | suc m ↦ λ h. absurd (omega arith) ];
  high = λ n. elim n as (λ m. m < length (o ∷ []) → IsPoint extents dates (order_at (o ∷ []) m).high) [ zero ↦ λ h. high | suc m ↦ λ h. absurd (omega arith) ];
}

inside_low : (extents dates date k : ℕ) → date < dates → k < extents → (n : ℕ) → n < length (inside_orders date k) →
    IsPoint extents dates (order_at (inside_orders date k) n).low
inside_low extents dates date k d e zero h = e
inside_low extents dates date k d e (suc zero) h = d
inside_low extents dates date k d e (suc (suc n)) h = absurd (omega arith)

inside_high : (extents dates date k : ℕ) → date < dates → k < extents → (n : ℕ) → n < length (inside_orders date k) →
    IsPoint extents dates (order_at (inside_orders date k) n).high
inside_high extents dates date k d e zero h = d
inside_high extents dates date k d e (suc zero) h = e
inside_high extents dates date k d e (suc (suc n)) h = absurd (omega arith)

pub inside_in_range : (extents dates date k : ℕ) → date < dates → k < extents → AreInRange extents dates (inside_orders date k)
inside_in_range extents dates date k d e = record { low = inside_low extents dates date k d e; high = inside_high extents dates date k d e }

pub outside_in_range : (table : Point → Point → Reach) (extents dates date k : ℕ) → date < dates → k < extents →
    AreInRange extents dates (outside_order table date k ∷ [])
outside_in_range table extents dates date k d e =
    elim (cases_Bool (is_known (table (Start k) (Date date)))) [
      | inl known ↦ rw known (one_in_range extents dates (order_to k (End k) (Date date) false) e d)
      | inr unknown ↦ rw unknown (one_in_range extents dates (order_to k (Date date) (Start k) true) d e)
    ]

-- from what x does not lead to, the wider table of x knows what is known
not_widened : (r s : Reach) → is_strict s ≡ false → is_strict (widened r Nothing s) ≡ false
not_widened Nothing Nothing h = refl
not_widened Nothing Le h = refl
not_widened Nothing Lt h = absurd (true≢false h)
not_widened Le Nothing h = refl
not_widened Le Le h = refl
not_widened Le Lt h = absurd (true≢false h)
not_widened Lt Nothing h = refl
not_widened Lt Le h = refl
not_widened Lt Lt h = absurd (true≢false h)

nothing_is : (r : Reach) → is_known r ≡ false → r ≡ Nothing
nothing_is Nothing h = refl
nothing_is Le h = absurd (true≢false h)
nothing_is Lt h = absurd (true≢false h)

module _ (set : Orders) (keeps : IsOrderSet set.list set.extents set.dates) (no_cycle : HasCycle set.list → ⊥) (date k : ℕ)
    (in_dates : date < length set.dates) (in_extents : k < set.extents) where
  -- the end of an extent does not lead to its start
  pub end_apart : reach_between set.list (End k) (Start k) ≡ Nothing
  end_apart =
      nothing_is _ (is_false _ (λ e.
      (let g : IsOrderly set.list set.extents (length set.dates) (reach_between set.list) = good set keeps no_cycle in
      let m = keeps.starts_before_ends k in_extents in
      let before : is_strict (reach_between set.list (Start k) (End k)) ≡ true =
      (let P : Point → Type 0 = λ z. is_strict (reach_between set.list z (End k)) ≡ true in
      let Q : Point → Type 0 = λ z. is_strict (reach_between set.list (order_at set.list m.0).low z) ≡ true in
      subst P m.1.1 (subst Q m.1.2 (g.keeps_strictly m.0 m.1.0 m.1.3))) in
      let around : is_strict (reach_between set.list (Start k) (Start k)) ≡ true =
      g.joins_strictly (Start k) (End k) (Start k) in_extents in_extents in_extents (known_of_strict _ before) e (rw before refl) in
      let P : Reach → Type 0 = λ z. is_strict z ≡ true in
      true≢false (sym (subst P (g.itself (Start k) in_extents) around)))))

  length_delaying : (x : Point) → IsPoint set.extents (length set.dates) x → length (delaying_placing set.list set.extents set.dates x) ≡ 2 * set.extents
  length_delaying x in_x = built_length set.list set.extents set.dates (wider (reach_between set.list) x) keeps (wide set.list set.extents set.dates keeps no_cycle x in_x)

  length_plain : length (plain_placing set.list set.extents set.dates) ≡ 2 * set.extents
  length_plain = built_length set.list set.extents set.dates (reach_between set.list) keeps (good set keeps no_cycle)

  inside_there : is_never (reach_between set.list) date k ≡ false → IsSatisfied (set.list ++ inside_orders date k) set.dates (delaying_placing set.list set.extents set.dates (End k))
  inside_there possible =
      let n = neither _ _ possible in
      (satisfied_both set.dates (delaying_placing set.list set.extents set.dates (End k)) set.list (inside_orders date k)).1 (
        delaying_satisfies set.list set.extents set.dates keeps no_cycle (End k) in_extents,
        two_orders (order_to k (Start k) (Date date) false) (order_to k (Date date) (End k) true) set.dates (delaying_placing set.list set.extents set.dates (End k))
            (at_or_before_date set.list set.extents set.dates (wider (reach_between set.list) (End k)) keeps
            (wide set.list set.extents set.dates keeps no_cycle (End k) in_extents) (Start k) in_extents date in_dates
            (rw end_apart (not_widened (reach_between set.list (End k) (Date date)) (reach_between set.list (Date date) (Start k)) n.0)))
            (delayed_before set.list set.extents set.dates keeps no_cycle (End k) (Date date) in_extents in_dates
            (λ f. true≢false (sym (follows_entry set.list (End k) (Date date) false f) ∙ n.1))),
      )

  outside_there : is_surely (reach_between set.list) date k ≡ false →
      (placing : List Position) × ((length placing ≡ 2 * set.extents) × IsSatisfied (set.list ++ outside_order (reach_between set.list) date k ∷ []) set.dates placing)
  outside_there unsure =
      elim (cases_Bool (is_known (reach_between set.list (Start k) (Date date)))) [
        | inl known ↦ (
          plain_placing set.list set.extents set.dates,
          (
            length_plain,
            rw known ((satisfied_both set.dates (plain_placing set.list set.extents set.dates) set.list (order_to k (End k) (Date date) false ∷ [])).1 (
              plain_satisfies set.list set.extents set.dates keeps no_cycle,
              one_order (order_to k (End k) (Date date) false) set.dates (plain_placing set.list set.extents set.dates)
                  (at_or_before_date set.list set.extents set.dates (reach_between set.list) keeps (good set keeps no_cycle) (End k) in_extents date in_dates (not_first _ _ unsure known)),
            )),
          ),
        )
        | inr unknown ↦ (
          delaying_placing set.list set.extents set.dates (Start k),
          (
            length_delaying (Start k) in_extents,
            rw unknown ((satisfied_both set.dates (delaying_placing set.list set.extents set.dates (Start k)) set.list (order_to k (Date date) (Start k) true ∷ [])).1 (
              delaying_satisfies set.list set.extents set.dates keeps no_cycle (Start k) in_extents,
              one_order (order_to k (Date date) (Start k) true) set.dates (delaying_placing set.list set.extents set.dates (Start k))
                  (delayed_before set.list set.extents set.dates keeps no_cycle (Start k) (Date date) in_extents in_dates
                  (λ f. true≢false (sym (follows_entry set.list (Start k) (Date date) false f) ∙ unknown))),
            )),
          ),
        )
      ]

  pub inside_consistent : is_never (reach_between set.list) date k ≡ false → HasCycle (set.list ++ inside_orders date k) → ⊥
  inside_consistent possible cycle =
      cycle_refutes (set.list ++ inside_orders date k) set.dates set.extents cycle
      (delaying_placing set.list set.extents set.dates (End k), (length_delaying (End k) in_extents, inside_there possible))

  pub outside_consistent : is_surely (reach_between set.list) date k ≡ false → HasCycle (set.list ++ outside_order (reach_between set.list) date k ∷ []) → ⊥
  outside_consistent unsure cycle =
      cycle_refutes (set.list ++ outside_order (reach_between set.list) date k ∷ []) set.dates set.extents cycle (outside_there unsure)

  -- the plain placing with further orders satisfies both lists
  module _ (more : List Order) (range : AreInRange set.extents (length set.dates) more) (none : HasCycle (set.list ++ more) → ⊥) where
    more_set : IsOrderSet (set.list ++ more) set.extents set.dates
    more_set = further_is_set set.extents set.dates set.list more keeps range

    plain_both : IsSatisfied set.list set.dates (plain_with set more) × IsSatisfied more set.dates (plain_with set more)
    plain_both = (satisfied_both set.dates (plain_with set more) set.list more).0 (plain_satisfies (set.list ++ more) set.extents set.dates more_set none)

    plain_of : IsPlacingOf set (plain_with set more)
    plain_of = record {
      size = built_length (set.list ++ more) set.extents set.dates (reach_between (set.list ++ more)) more_set
          (computed_orderly (set.list ++ more) set.extents set.dates more_set none);
      satisfies = plain_both.0;
    }

  abbrev At : ℤ
  At = get_or set.dates date (pos 0)

  inside_is : is_never (reach_between set.list) date k ≡ false →
      IsPlacingOf set (plain_with set (inside_orders date k)) × IsUnderWay set.dates (plain_with set (inside_orders date k)) k At
  inside_is possible =
      let range : AreInRange set.extents (length set.dates) (inside_orders date k) = inside_in_range set.extents (length set.dates) date k in_dates in_extents in
      let none : HasCycle (set.list ++ inside_orders date k) → ⊥ = inside_consistent possible in
      let parts = plain_both (inside_orders date k) range none in
      (plain_of (inside_orders date k) range none, record { started = parts.1 0 (omega arith); unended = parts.1 1 (omega arith) })

  outside_is : is_surely (reach_between set.list) date k ≡ false →
      IsPlacingOf set (plain_with set (outside_order (reach_between set.list) date k ∷ []))
      × (IsUnderWay set.dates (plain_with set (outside_order (reach_between set.list) date k ∷ [])) k At → ⊥)
  outside_is unsure =
      let range : AreInRange set.extents (length set.dates) (outside_order (reach_between set.list) date k ∷ []) =
      outside_in_range (reach_between set.list) set.extents (length set.dates) date k in_dates in_extents in
      let none : HasCycle (set.list ++ outside_order (reach_between set.list) date k ∷ []) → ⊥ = outside_consistent unsure in
      let parts = plain_both (outside_order (reach_between set.list) date k ∷ []) range none in (
        plain_of (outside_order (reach_between set.list) date k ∷ []) range none,
        λ way.
            elim (cases_Bool (is_known (reach_between set.list (Start k) (Date date)))) [
              | inl known ↦
                  (let P : Order → Type 0 = λ o. Stands set.dates (plain_with set (outside_order (reach_between set.list) date k ∷ [])) o in
                  let e : outside_order (reach_between set.list) date k ≡ order_to k (End k) (Date date) false = rw known refl in
                  ended set.dates (plain_with set (outside_order (reach_between set.list) date k ∷ [])) k At way (subst P e (parts.1 0 (omega arith))))
              | inr unknown ↦
                  (let P : Order → Type 0 = λ o. Stands set.dates (plain_with set (outside_order (reach_between set.list) date k ∷ [])) o in
                  let e : outside_order (reach_between set.list) date k ≡ order_to k (Date date) (Start k) true = rw unknown refl in
                  unstarted set.dates (plain_with set (outside_order (reach_between set.list) date k ∷ [])) k At way (subst P e (parts.1 0 (omega arith))))
            ],
      )

  pub during_is : IsDuring set At k (during_of set date k)
  during_is =
      elim (cases_Bool (is_surely (reach_between set.list) date k)) [
        | inl sure ↦ rw sure (λ placing of.
            (let parts = both _ _ sure in record {
              started = always_of set keeps no_cycle (Start k) (Date date) false parts.0 placing of.size of.satisfies;
              unended = always_of set keeps no_cycle (Date date) (End k) true parts.1 placing of.size of.satisfies;
            }))
        | inr unsure ↦ rw unsure (elim (cases_Bool (is_never (reach_between set.list) date k)) [
          | inl never ↦ rw never (λ placing of way.
              elim (cases_Bool (is_strict (reach_between set.list (Date date) (Start k)))) [
                | inl late ↦ unstarted set.dates placing k At way (always_of set keeps no_cycle (Date date) (Start k) true late placing of.size of.satisfies)
                | inr other ↦
                    (let over : is_known (reach_between set.list (End k) (Date date)) ≡ true = (rw other at never) in
                    ended set.dates placing k At way (always_of set keeps no_cycle (End k) (Date date) false over placing of.size of.satisfies))
              ])
          | inr possible ↦ rw possible (inside_is possible, outside_is unsure)
        ])
      ]
