-- Where some placing satisfies the orders that a triple doesn't make.
use Rattle.std.proofs.Common.{zero, suc, ◌≡◌, ℕ, ℤ, List, [], ◌∷◌, ◌++◌, Bool, true, false, not, ◌+◌, ◌-◌, length, inl, inr, refl, subst, ap, sym, ◌∙◌}
use Rattle.std.specs.Prelude.{Option, Some, None}
use Rattle.std.proofs.lemmas.Bool.{cases_Bool, true≢false}
use Rattle.std.proofs.lemmas.List.Elements.{filter-append}
use Rattle.order_laws.specs.declared.Order.{Order}
use Rattle.order_laws.specs.declared.By.TheVariants.{Extent, Dates}
use Rattle.order_laws.specs.declared.Point.TheVariants.{Start, End, Date}
use Rattle.order_laws.specs.Chains.{HasCycle}
use Rattle.order_laws.specs.Closure.{has_strict_loop}
use Rattle.order_laws.specs.FirstChains.{IsFirstCycle}
use Rattle.order_laws.specs.Tables.{IsOrderSet}
use Rattle.order_laws.proofs.Loops.{cycle_decided}
use Rattle.order_core.specs.Sets.{Orders, AreAscending, AreInRange, completed, extent_orders, date_orders}
use Rattle.order_core.proofs.Completed.{completed_is_set}
use Rattle.order_conflicts.specs.declared.conflicts.Conflicts.{Conflicts}
use Rattle.order_conflicts.specs.Conflicts.{conflicts_in, conflicts_where}
use Rattle.order_conflicts.specs.Rings.{IsCycle}
use Rattle.order_conflicts.specs.Suspects.{is_made_by, suspects_in, without}
use Rattle.order_conflicts.specs.Tangles.{tangles_in}
use Rattle.order_conflicts.proofs.Passing.{passing_in_range}

abbrev extent_order : ℕ → Order
extent_order k = record { low = Start k; high = End k; strict = true; by = Extent k }

abbrev date_order : ℕ → Order
date_order k = record { low = Date k; high = Date (k + 1); strict = true; by = Dates }

keep_extents : (t k : ℕ) → without t (extent_orders k) ≡ extent_orders k
keep_extents t zero = refl
keep_extents t (suc k) = filter-append (λ o. not (is_made_by t o)) (extent_orders k) (extent_order k ∷ []) ∙ ap (λ os. os ++ extent_order k ∷ []) (keep_extents t k)

keep_dates : (t k : ℕ) → without t (date_orders k) ≡ date_orders k
keep_dates t zero = refl
keep_dates t (suc k) = filter-append (λ o. not (is_made_by t o)) (date_orders k) (date_order k ∷ []) ∙ ap (λ os. os ++ date_order k ∷ []) (keep_dates t k)

pub without_completed : (t extents dates : ℕ) (statements : List Order) →
    without t (completed extents dates statements) ≡ completed extents dates (without t statements)
without_completed t extents dates statements =
    filter-append (λ o. not (is_made_by t o)) statements (extent_orders extents ++ date_orders (dates - 1))
    ∙ ap (λ os. without t statements ++ os)
    (filter-append (λ o. not (is_made_by t o)) (extent_orders extents) (date_orders (dates - 1))
    ∙ ap (λ os. os ++ without t (date_orders (dates - 1))) (keep_extents t extents)
    ∙ ap (λ os. extent_orders extents ++ os) (keep_dates t (dates - 1)))

pub without_is_set : (t extents : ℕ) (dates : List ℤ) (statements : List Order) → AreAscending dates → AreInRange extents (length dates) statements →
    IsOrderSet (without t (completed extents (length dates) statements)) extents dates
without_is_set t extents dates statements ascending range =
    let P : List Order → Type 0 = λ os. IsOrderSet os extents dates in
    subst P (sym (without_completed t extents (length dates) statements))
    (completed_is_set extents dates (without t statements) ascending (passing_in_range (λ o. not (is_made_by t o)) extents (length dates) statements range))

-- no strict loop is no cycle
module _ (orders : List Order) (extents : ℕ) (dates : List ℤ) (s : IsOrderSet orders extents dates) where
  pub free_of_cycles : has_strict_loop orders extents (length dates) ≡ false → HasCycle orders → ⊥
  free_of_cycles e cycle = true≢false (sym ((cycle_decided orders extents (length dates) s.low_in_range).0 cycle) ∙ e)

  pub no_loop_without : (HasCycle orders → ⊥) → has_strict_loop orders extents (length dates) ≡ false
  no_loop_without none = elim (cases_Bool (has_strict_loop orders extents (length dates))) [
    | inl holds ↦ absurd (none ((cycle_decided orders extents (length dates) s.low_in_range).1 holds))
    | inr no_more ↦ no_more
  ]

pub is_not : (b : Bool) → not b ≡ true → b ≡ false
is_not true e = absurd (true≢false (sym e))
is_not false e = refl

none_where : (set : Orders) (b : Bool) → conflicts_where set b ≡ None → b ≡ false
none_where set true e = absurd (let there : Option Conflicts → Bool = λ o. elim o as (λ _. Bool) [ None ↦ false | Some _ ↦ true ] in true≢false (ap there e))
none_where set false e = refl

pub none_found : (set : Orders) → conflicts_in set ≡ None → has_strict_loop set.list set.extents (length set.dates) ≡ false
none_found set e = none_where set (has_strict_loop set.list set.extents (length set.dates)) e

-- the cycle that is found
pub cycle_found : (set : Orders) (ns : List ℕ) → IsFirstCycle set.list set.extents (length set.dates) ns → IsCycle set.list ns
cycle_found set ns first = (first.point, (first.chain.chain, first.chain.shows refl))

pub conflicts_none : (set : Orders) → IsOrderSet set.list set.extents set.dates → (HasCycle set.list → ⊥) → None ≡ conflicts_in set
conflicts_none set s none = sym (ap (conflicts_where set) (no_loop_without set.list set.extents set.dates s none))

pub conflicts_some : (set : Orders) (ns : List ℕ) → IsOrderSet set.list set.extents set.dates → IsCycle set.list ns →
    Some (record { tangles = tangles_in set; suspects = suspects_in set }) ≡ conflicts_in set
conflicts_some set ns s cycle =
    let cycles : HasCycle set.list = (cycle.0, (ns, (cycle.1.0, cycle.1.1))) in
    sym (ap (conflicts_where set) ((cycle_decided set.list set.extents (length set.dates) s.low_in_range).0 cycles))
