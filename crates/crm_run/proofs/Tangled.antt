-- What is said of contradictions is true of every placing.
use Rattle.std.proofs.Common.{◌≡◌, ℕ, ℤ, ◌<◌, ◌+◌, ◌-◌, List, [], ◌∷◌, ◌++◌, All, length, length-append, get_or, Bool, true, false, not, Option, Some, None, refl, sym, ap, subst, ◌∙◌, arith, inl, inr}
use Rattle.std.specs.Prelude.{◌↔◌, codes}
use Rattle.std.specs.List.{Contains, filter, list_any, range_with_len}
use Rattle.std.proofs.lemmas.Bool.{cases_Bool, cases_lt, true≢false}
use Rattle.std.proofs.lemmas.List.{append_cancel_left, get_or-append-add, get_or-append_right, get_or_append_left, get_or_default}
use Rattle.std.proofs.lemmas.List.Elements.{Contains-get_or}
use Rattle.order_laws.specs.declared.Order.{Order}
use Rattle.order_laws.specs.declared.Point.{Point}
use Rattle.order_laws.specs.declared.Position.{Position}
use Rattle.order_laws.specs.Chains.{HasCycle, IsWalk, no_order, order_at}
use Rattle.order_laws.specs.Closure.{has_strict_loop}
use Rattle.order_laws.specs.Placings.{IsConsistent, IsSatisfied}
use Rattle.order_laws.specs.Tables.{IsOrderSet, IsPoint}
use Rattle.order_laws.proofs.Loops.{cycle_decided}
use Rattle.order_core.specs.Sets.{Orders, AreAscending, AreInRange, completed, date_orders, extent_orders}
use Rattle.order_conflicts.specs.declared.conflicts.Conflicts.{Conflicts}
use Rattle.order_conflicts.specs.declared.suspects.Suspect.{Suspect}
use Rattle.order_conflicts.specs.declared.tangles.Tangle.{Tangle}
use Rattle.order_conflicts.specs.Conflicts.{conflicts_in, conflicts_where}
use Rattle.order_conflicts.specs.Suspects.{is_suspect, suspect_of, suspects_in, triple_bound, without}
use Rattle.order_conflicts.specs.Tangles.{are_tied, is_tangled, is_tied_in, least_points, set_of, tangle_at, tangles_in, untangled}
use Rattle.order_conflicts.proofs.Listing.{listed_suspect, suspect_listed}
use Rattle.order_conflicts.proofs.Members.{Source, contains_first, contains_later, contains_mapped, number_among, passes_among, source}
use Rattle.order_conflicts.proofs.Rings.{cycle_listed, is_cycle, is_first}
use Rattle.order_conflicts.proofs.Tied.{cycle_in_tangle, cycle_order_listed, is_listed, of_tied, one_tangle, order_on_cycle}
use Rattle.conflict_reports.specs.Texts.{outcome_text}
use Rattle.crm_run.specs.Headline.{AreSuspects, AreTangles, HasFirstCycle, HasPlacing, HasPlacingBeside, IsAlong, IsStated, IsTangled, IsTrueConflicts, SaysConflicts, StandsIn}

module _ (set : Orders) (conditions : IsOrderSet set.list set.extents set.dates) where
  -- each tangle is that of a least point
  found : (t : Tangle) → Contains (tangles_in set) t → Source (tangle_at set) (least_points set) t
  found t c = source (tangle_at set) (least_points set) t c

  tangle_among : (x : Point) → Contains (least_points set) x → Contains (tangles_in set) (tangle_at set x)
  tangle_among x c = contains_mapped (tangle_at set) (least_points set) x c

  lists_as : (s t : Tangle) (n : ℕ) → s ≡ t → Contains t.orders n → Contains s.orders n
  lists_as s t n same c = subst (λ (u : Tangle). Contains u.orders n) (sym same) c

  -- a cycle along a tangle begins at a point that is tied to the tangle's
  home : (x y z : Point) (ns : List ℕ) → 0 < length ns → IsWalk set.list y z ns → IsAlong (tangle_at set x) ns → are_tied set.list x y ≡ true
  home x y z [] some walk along = absurd (omega (arith, some))
  home x y z (n ∷ ns) some walk along =
      subst (λ (p : Point). are_tied set.list x p ≡ true) walk.1
      (of_tied set.list x (order_at set.list n).low (is_listed set conditions x n (along 0 0 (omega arith))).low)

  first_cycle : (x : Point) → Contains (least_points set) x → HasFirstCycle set (tangle_at set x)
  first_cycle x least = record {
    cycle = is_cycle set conditions x least;
    along = cycle_listed set conditions x least;
    first = λ ns cycle along. is_first set conditions x least cycle.0 ns (home x cycle.0 cycle.0 ns cycle.1.0.0 cycle.1.0.1 along) cycle.1.0 cycle.1.1;
  }

  tangles : AreTangles set (tangles_in set)
  tangles = record {
    listed = λ n. (
      λ l. (let from = found l.0 l.1.0 in order_on_cycle set conditions from.item n from.among (lists_as (tangle_at set from.item) l.0 n from.same l.1.1)),
      λ ring. (let at = cycle_order_listed set conditions ring.0 n ring.1.0 ring.1.1 in (tangle_at set at.0, (tangle_among at.0 at.1.0, at.1.1))),
    );
    whole = λ ns cycle. (let at = cycle_in_tangle set conditions ns cycle in (tangle_at set at.0, (tangle_among at.0 at.1.0, at.1.1)));
    apart = λ s t n in_s in_t on_s on_t.
        (let one = found s in_s in
        let other = found t in_t in
        let same = one_tangle set conditions one.item other.item n one.among other.among (lists_as (tangle_at set one.item) s n one.same on_s)
        (lists_as (tangle_at set other.item) t n other.same on_t) in
        sym one.same ∙ ap (tangle_at set) same ∙ other.same);
    cycles = λ t c. (let from = found t c in subst (λ (u : Tangle). HasFirstCycle set u) from.same (first_cycle from.item from.among));
  }

  any_of : (p : Point → Bool) (xs : List Point) → list_any p xs ≡ true → (x : Point) × (Contains xs x × (p x ≡ true))
  any_of p [] e = absurd (true≢false (sym e))
  any_of p (x ∷ xs) e =
      elim (cases_Bool (p x)) [
        | inl holds ↦ (x, (contains_first x xs, holds))
        | inr other ↦ (let later = any_of p xs (rw other at e) in (later.0, (contains_later x later.0 xs later.1.0, later.1.1)))
      ]

  tangled : (n : ℕ) → n < length set.list → is_tangled set (order_at set.list n) ≡ true → IsTangled (tangles_in set) n
  tangled n lt is =
      let at = any_of (λ (x : Point). is_tied_in set.list x (order_at set.list n)) (least_points set) is in (
        tangle_at set at.0,
        (
          tangle_among at.0 at.1.0,
          passes_among (λ (m : ℕ). is_tied_in set.list at.0 (order_at set.list m)) (range_with_len 0 (length set.list)) n (number_among (length set.list) n lt) at.1.1,
        ),
      )

  only : (s : Suspect) → Contains (suspects_in set) s → s ≡ suspect_of set.list s.triple
  only s c =
      let from = source (suspect_of set.list) (filter (is_suspect set) (range_with_len 0 (triple_bound set.list))) s c in
      sym from.same ∙ ap (suspect_of set.list) (ap (λ (u : Suspect). u.triple) from.same)

module _ (conflicts_law : (set : Orders) → IsOrderSet set.list set.extents set.dates → (conflicts_in set ≡ None) ↔ IsConsistent set.list set.dates set.extents)
    (suspects_law : (extents : ℕ) (dates : List ℤ) (statements : List Order) (t : ℕ) → AreAscending dates → AreInRange extents (length dates) statements →
    (is_suspect (set_of extents dates statements) t ≡ true) ↔ IsConsistent (without t (completed extents (length dates) statements)) dates extents)
    (rest_law : (extents : ℕ) (dates : List ℤ) (statements : List Order) → AreAscending dates → AreInRange extents (length dates) statements →
    IsConsistent (completed extents (length dates) (untangled extents dates statements)) dates extents)
    (extents : ℕ) (dates : List ℤ) (statements : List Order)
    (made : All IsStated statements) (conditions : IsOrderSet (completed extents (length dates) statements) extents dates) where
  abbrev set : Orders
  set = set_of extents dates statements

  abbrev others : List Order
  others = extent_orders extents ++ date_orders (length dates - 1)

  ascending : AreAscending dates
  ascending = record { each = conditions.ascending }

  stands : (n : ℕ) → n < length statements → order_at set.list n ≡ order_at statements n
  stands n lt = get_or_append_left statements others no_order n lt

  below : (n : ℕ) → n < length statements → n < length set.list
  below n lt = omega (arith, lt, length-append statements others)

  in_range : AreInRange extents (length dates) statements
  in_range = record {
    low = λ n lt. subst (λ (o : Order). IsPoint extents (length dates) o.low) (stands n lt) (conditions.low_in_range n (below n lt));
    high = λ n lt. subst (λ (o : Order). IsPoint extents (length dates) o.high) (stands n lt) (conditions.high_in_range n (below n lt));
  }

  abbrev kept : List Order
  kept = untangled extents dates statements

  module _ (placing : List Position) (sat : IsSatisfied (kept ++ others) dates placing) where
    of_kept : (o : Order) → Contains kept o → StandsIn dates placing o
    of_kept o c =
        let here : order_at (kept ++ others) c.0 ≡ o = get_or_append_left kept others no_order c.0 c.1 ∙ get_or_default kept c.0 no_order o c.1 ∙ c.2 in
        subst (λ (p : Order). StandsIn dates placing p) here (sat c.0 (omega (arith, c.1, length-append kept others)))

    of_others : (k : ℕ) → k < length others → StandsIn dates placing (order_at others k)
    of_others k lt =
        subst (λ (p : Order). StandsIn dates placing p) (get_or-append-add kept others k no_order)
        (sat (length kept + k) (omega (arith, lt, length-append kept others)))

    of_statements : (n : ℕ) → n < length statements → (IsStated (order_at set.list n) × IsTangled (tangles_in set) n → ⊥) → (b : Bool) →
        is_tangled set (order_at statements n) ≡ b → StandsIn dates placing (order_at set.list n)
    of_statements n lt free true is =
        absurd (free (
          subst (λ (p : Order). IsStated p) (sym (stands n lt)) (made n no_order lt),
          tangled set conditions n (below n lt) (subst (λ (p : Order). is_tangled set p ≡ true) (sym (stands n lt)) is),
        ))
    of_statements n lt free false is =
        subst (λ (p : Order). StandsIn dates placing p) (sym (stands n lt))
        (of_kept (order_at statements n)
        (passes_among (λ (p : Order). not (is_tangled set p)) statements (order_at statements n) (Contains-get_or statements n no_order lt) (ap not is)))

    satisfied : (n : ℕ) → n < length set.list → (IsStated (order_at set.list n) × IsTangled (tangles_in set) n → ⊥) → StandsIn dates placing (order_at set.list n)
    satisfied n lt free =
        elim (cases_lt n (length statements)) [
          | inl less ↦ of_statements n less free (is_tangled set (order_at statements n)) refl
          | inr most ↦
              subst (λ (p : Order). StandsIn dates placing p) (sym (get_or-append_right statements others (length statements) n no_order refl most))
              (of_others (n - length statements) (omega (arith, lt, most, length-append statements others)))
        ]

  rest : HasPlacingBeside set (tangles_in set)
  rest = let placed = rest_law extents dates statements ascending in_range in record { placing = placed.0; size = placed.1.0; satisfied = satisfied placed.0 placed.1.1 }

  suspects : HasCycle set.list → AreSuspects set (suspects_in set)
  suspects cycle = record {
    suspected = λ t.
        (let law = suspects_law extents dates statements t ascending in_range in
        (λ c. law.0 (listed_suspect set t conditions cycle c), λ placed. suspect_listed set t conditions cycle (law.1 placed)));
    only = only set conditions;
  }

  not_consistent : (c : Conflicts) → outcome_text (Some c) ≡ codes "consistent\n" → ⊥
  not_consistent c e = let n : 105 ≡ 99 = ap (λ (l : List ℕ). get_or l 0 0) e in omega (arith, n)

  abbrev whole : Conflicts
  whole = record { tangles = tangles_in set; suspects = suspects_in set }

  module _ (front : List ℕ) where
    says_consistent : (b : Bool) → has_strict_loop set.list set.extents (length set.dates) ≡ b →
        (front ++ outcome_text (conflicts_where set b) ≡ front ++ codes "consistent\n") → HasPlacing set
    says_consistent true is e = absurd (not_consistent whole (append_cancel_left front (outcome_text (Some whole)) (codes "consistent\n") e))
    says_consistent false is e = (conflicts_law set conditions).0 (ap (conflicts_where set) is)

    says_conflicts : (b : Bool) → has_strict_loop set.list set.extents (length set.dates) ≡ b → (HasPlacing set → ⊥) →
        SaysConflicts set front (front ++ outcome_text (conflicts_where set b))
    says_conflicts true is none = record {
      conflicts = whole;
      says = refl;
      tangles = tangles set conditions;
      rest = rest;
      suspects = suspects ((cycle_decided set.list set.extents (length set.dates) conditions.low_in_range).1 is);
    }
    says_conflicts false is none = absurd (none ((conflicts_law set conditions).0 (ap (conflicts_where set) is)))

    pub true_conflicts : IsTrueConflicts set front (front ++ outcome_text (conflicts_in set))
    true_conflicts = record {
      consistent = (
        says_consistent (has_strict_loop set.list set.extents (length set.dates)) refl,
        λ placed. ap (λ (o : Option Conflicts). front ++ outcome_text o) ((conflicts_law set conditions).1 placed),
      );
      inconsistent = says_conflicts (has_strict_loop set.list set.extents (length set.dates)) refl;
    }
