-- The orders that no tangle lists have no cycle.
use Rattle.std.proofs.Common.{zero, suc, ◌≡◌, ℕ, ℤ, List, [], ◌∷◌, ◌++◌, Bool, true, false, not, ◌+◌, ◌-◌, ◌<◌, ◌≤◌, length, get_or, All, arith, inl, inr, refl, subst, ap, sym, ◌∙◌, length-append}
use Rattle.std.specs.Prelude.{◌⊎◌}
use Rattle.std.specs.List.{Contains}
use Rattle.std.proofs.lemmas.Bool.{cases_lt, true≢false}
use Rattle.std.proofs.lemmas.List.{get_or_append_left, get_or-append_right, get_or-append-add}
use Rattle.std.proofs.lemmas.List.Folds.{list_any_at}
use Rattle.order_laws.specs.declared.By.TheVariants.{Extent, Dates}
use Rattle.order_laws.specs.declared.Order.{Order}
use Rattle.order_laws.specs.declared.Point.{Point}
use Rattle.order_laws.specs.declared.Point.TheVariants.{Start, End, Date}
use Rattle.order_laws.specs.Chains.{order_at, no_order, IsWalk, shows_strict, HasCycle}
use Rattle.order_laws.specs.Tables.{IsOrderSet}
use Rattle.order_core.specs.Sets.{Orders, AreAscending, AreInRange, completed, extent_orders, date_orders}
use Rattle.order_core.proofs.Completed.{completed_is_set}
use Rattle.order_conflicts.specs.Rings.{IsCycle}
use Rattle.order_conflicts.specs.Tangles.{is_tangled, is_tied_in, least_points, tangle_at, set_of, untangled}
use Rattle.order_conflicts.proofs.Avoiding.{long}
use Rattle.order_conflicts.proofs.Members.{among_passing}
use Rattle.order_conflicts.proofs.Passing.{Passing, passing_from, passing_in_range}
use Rattle.order_conflicts.proofs.Tied.{cycle_in_tangle}

-- a height of the points, which the orders of extents and dates raise
abbrev height : Point → ℕ
height (Start k) = 0
height (End k) = 1
height (Date k) = k

abbrev Raise : List Order → Type 0
Raise orders = (n : ℕ) → n < length orders → height (order_at orders n).low < height (order_at orders n).high

raise_both : (xs ys : List Order) → Raise xs → Raise ys → Raise (xs ++ ys)
raise_both xs ys a b = λ n h. elim (cases_lt n (length xs)) [
  | inl less ↦ rw (get_or_append_left xs ys no_order n less) (a n less)
  | inr most ↦ rw (get_or-append_right xs ys (length xs) n no_order refl most) (b (n - length xs) (omega (arith, length-append xs ys)))
]

raise_one : (o : Order) → height o.low < height o.high → Raise (o ∷ [])
raise_one o h zero l = h
raise_one o h (suc n) l = absurd (omega (arith, l))

abbrev extent_order : ℕ → Order
extent_order k = record { low = Start k; high = End k; strict = true; by = Extent k }

abbrev date_order : ℕ → Order
date_order k = record { low = Date k; high = Date (k + 1); strict = true; by = Dates }

raise_extents : (k : ℕ) → Raise (extent_orders k)
raise_extents zero = λ n h. absurd (omega arith)
raise_extents (suc k) = raise_both (extent_orders k) (extent_order k ∷ []) (raise_extents k) (raise_one (extent_order k) (omega arith))

raise_dates : (k : ℕ) → Raise (date_orders k)
raise_dates zero = λ n h. absurd (omega arith)
raise_dates (suc k) = raise_both (date_orders k) (date_order k ∷ []) (raise_dates k) (raise_one (date_order k) (omega arith))

not_true : (b : Bool) → not b ≡ true → b ≡ false
not_true true e = absurd (true≢false (sym e))
not_true false e = refl

module _ (extents : ℕ) (dates : List ℤ) (statements : List Order) where
  abbrev set : Orders
  set = set_of extents dates statements

  abbrev others : List Order
  others = extent_orders extents ++ date_orders (length dates - 1)

  abbrev kept : List Order
  kept = untangled extents dates statements

  abbrev rest : List Order
  rest = completed extents (length dates) (untangled extents dates statements)

  -- an order of the rest, by its number among all: no tangle lists it, or it raises
  record Origin (order : Order) : Type 0 where
    number : ℕ
    below : number < length set.list
    same : order_at set.list number ≡ order
    apart : (is_tangled set (order_at set.list number) ≡ false) ⊎ (height order.low < height order.high)

  of_statement : (order : Order) → Passing (λ o. not (is_tangled set o)) statements order → Origin order
  of_statement order a =
      let there : order_at set.list a.number ≡ order_at statements a.number = get_or_append_left statements others no_order a.number a.below in
      let P : Order → Type 0 = λ o. is_tangled set o ≡ false in
      record {
        number = a.number;
        below = omega (arith, a.below, length-append statements others);
        same = there ∙ a.same;
        apart = inl (subst P (sym there) (not_true (is_tangled set (order_at statements a.number)) a.passes));
      }

  of_other : (k : ℕ) → k < length others → Origin (order_at others k)
  of_other k h = record {
    number = length statements + k;
    below = omega (arith, h, length-append statements others);
    same = get_or-append-add statements others k no_order;
    apart = inr (raise_both (extent_orders extents) (date_orders (length dates - 1)) (raise_extents extents) (raise_dates (length dates - 1)) k h);
  }

  origin : (k : ℕ) → k < length rest → Origin (order_at rest k)
  origin k h =
      elim (cases_lt k (length kept)) [
        | inl less ↦ rw (get_or_append_left kept others no_order k less) (of_statement (order_at kept k) (passing_from (λ o. not (is_tangled set o)) statements k less))
        | inr most ↦ rw (get_or-append_right kept others (length kept) k no_order refl most) (of_other (k - length kept) (omega (arith, h, length-append kept others)))
      ]

  -- a walk of the rest, as one of all; it raises where tangles list all its orders
  record Lifted (x y : Point) (strict : Bool) : Type 0 where
    numbers : List ℕ
    walk : IsWalk set.list x y numbers
    shows : shows_strict set.list numbers ≡ strict
    raises : All (λ n. is_tangled set (order_at set.list n) ≡ true) numbers → height x + length numbers ≤ height y

  raised : (b : Bool) (x y : ℕ) → (b ≡ false) ⊎ (x < y) → b ≡ true → x < y
  raised b x y (inl e) h = absurd (true≢false (sym h ∙ e))
  raised b x y (inr less) h = less

  lifted : (x y : Point) (ks : List ℕ) → IsWalk rest x y ks → Lifted x y (shows_strict rest ks)
  lifted x y [] w = record { numbers = []; walk = w; shows = refl; raises = λ all. omega (arith, ap height w) }
  lifted x y (k ∷ ks) w =
      let order : Order = order_at rest k in
      let a : Origin order = origin k w.0 in
      let later : Lifted order.high y (shows_strict rest ks) = lifted order.high y ks w.2 in
      let P : Point → Type 0 = λ q. IsWalk set.list q y later.numbers in
      let strict : (order_at set.list a.number).strict ≡ order.strict = ap (λ (o : Order). o.strict) a.same in
      record {
        numbers = a.number ∷ later.numbers;
        walk = (a.below, ap (λ (o : Order). o.low) a.same ∙ w.1, subst P (sym (ap (λ (o : Order). o.high) a.same)) later.walk);
        shows = rw (strict, later.shows) refl;
        raises = λ all.
            (let up : height order.low < height order.high = raised _ (height order.low) (height order.high) a.apart (all 0 0 (omega arith)) in
            omega (arith, up, ap height w.1, later.raises (λ n d h. all (suc n) d (omega (arith, h)))));
      }

  module _ (ascending : AreAscending dates) (range : AreInRange extents (length dates) statements) where
    whole : IsOrderSet set.list extents dates
    whole = completed_is_set extents dates statements ascending range

    pub rest_is_set : IsOrderSet rest extents dates
    rest_is_set =
        completed_is_set extents dates (untangled extents dates statements) ascending
        (passing_in_range (λ o. not (is_tangled set o)) extents (length dates) statements range)

    tangled : (x : Point) (n : ℕ) → Contains (least_points set) x → Contains (tangle_at set x).orders n → is_tangled set (order_at set.list n) ≡ true
    tangled x n least listed =
        let in_x = (among_passing (λ m. is_tied_in set.list x (order_at set.list m)) _ n listed).passes in
        let P : Point → Type 0 = λ q. is_tied_in set.list q (order_at set.list n) ≡ true in
        list_any_at (λ q. is_tied_in set.list q (order_at set.list n)) (least_points set) least.0 x least.1 (subst P (sym least.2) in_x)

    pub rest_has_no_cycle : HasCycle rest → ⊥
    rest_has_no_cycle cycle =
        let up : Lifted cycle.0 cycle.0 (shows_strict rest cycle.1.0) = lifted cycle.0 cycle.0 cycle.1.0 cycle.1.1.0.1 in
        let shows : shows_strict set.list up.numbers ≡ true = up.shows ∙ cycle.1.1.1 in
        let some : 0 < length up.numbers = long set.list up.numbers shows in
        let ring : IsCycle set.list up.numbers = (cycle.0, ((some, up.walk), shows)) in
        let found = cycle_in_tangle set whole up.numbers ring in
        omega (arith, some, up.raises (λ k d h. tangled found.0 (get_or up.numbers k d) found.1.0 (found.1.1 k d h)))
