-- The orders that a triple doesn't make, by their numbers among all.
use Rattle.std.proofs.Common.{zero, suc, ◌≡◌, ℕ, List, [], ◌∷◌, ◌++◌, Bool, true, false, not, ◌<◌, length, arith, inl, inr, refl, subst, ap, sym, ◌∙◌}
use Rattle.std.specs.Prelude.{◌↔◌}
use Rattle.std.proofs.lemmas.Bool.{cases_Bool, true≢false}
use Rattle.order_laws.specs.declared.Order.{Order}
use Rattle.order_laws.specs.declared.Point.{Point}
use Rattle.order_laws.specs.Chains.{order_at, IsWalk, shows_strict, HasCycle}
use Rattle.order_laws.specs.Closure.{has_strict_loop}
use Rattle.order_laws.specs.Points.{number_of}
use Rattle.order_laws.specs.Tables.{IsPoint, IsOrderSet}
use Rattle.order_laws.proofs.Loops.{cycle_decided}
use Rattle.order_core.specs.Sets.{Orders}
use Rattle.order_closure.proofs.Tabling.{number_injective}
use Rattle.order_conflicts.specs.Suspects.{is_made_by, without}
use Rattle.order_conflicts.specs.Paths.{IsKept, IsPath, Leads, IsReturn, low_of, high_of}
use Rattle.order_conflicts.proofs.Passing.{Passing, passing_from}

not_true : (b : Bool) → not b ≡ true → b ≡ false
not_true true e = absurd (true≢false (sym e))
not_true false e = refl

not_false : (b : Bool) → b ≡ false → not b ≡ true
not_false b e = ap not e

-- an order that is kept, by its number among all
pub record Among (t : ℕ) (orders : List Order) (order : Order) : Type 0 where
  pub number : ℕ
  pub below : number < length orders
  pub same : order_at orders number ≡ order
  pub kept : is_made_by t (order_at orders number) ≡ false

pub kept_from : (t : ℕ) (orders : List Order) (k : ℕ) → k < length (without t orders) → Among t orders (order_at (without t orders) k)
kept_from t orders k h =
    let a : Passing (λ o. not (is_made_by t o)) orders (order_at (without t orders) k) = passing_from (λ o. not (is_made_by t o)) orders k h in
    record { number = a.number; below = a.below; same = a.same; kept = not_true (is_made_by t (order_at orders a.number)) a.passes }

-- the number of an order that is kept, among those that are
pub record Below (t : ℕ) (orders : List Order) (order : Order) : Type 0 where
  pub number : ℕ
  pub below : number < length (without t orders)
  pub same : order_at (without t orders) number ≡ order

pub kept_to : (t : ℕ) (orders : List Order) (n : ℕ) → n < length orders → is_made_by t (order_at orders n) ≡ false → Below t orders (order_at orders n)
kept_to t [] n h kept = absurd (omega arith)
kept_to t (o ∷ orders) zero h kept =
    let holds : not (is_made_by t o) ≡ true = not_false (is_made_by t o) kept in
    record { number = 0; below = rw holds (omega arith); same = rw holds refl }
kept_to t (o ∷ orders) (suc n) h kept =
    let old : Below t orders (order_at orders n) = kept_to t orders n (omega arith) kept in
    elim (cases_Bool (not (is_made_by t o))) [
      | inl holds ↦ record { number = suc old.number; below = rw holds (omega (arith, old.below)); same = rw holds old.same }
      | inr other ↦ record { number = old.number; below = rw other old.below; same = rw other old.same }
    ]

module _ (set : Orders) (t : ℕ) where
  pub path_append : (x y z : ℕ) (ms ns : List ℕ) → IsPath set t x y ms → IsPath set t y z ns → IsPath set t x z (ms ++ ns)
  path_append x y z [] ns v w = let P : ℕ → Type 0 = λ p. IsPath set t p z ns in subst P (sym v) w
  path_append x y z (m ∷ ms) ns v w = (v.0, v.1, path_append (high_of set m) y z ms ns v.2 w)

  -- along kept orders
  path_of_walk : (x y : Point) (ns : List ℕ) → IsWalk (without t set.list) x y ns → Leads set t (number_of set.extents x) (number_of set.extents y)
  path_of_walk x y [] w = ([], ap (number_of set.extents) w)
  path_of_walk x y (k ∷ ks) w =
      let a : Among t set.list (order_at (without t set.list) k) = kept_from t set.list k w.0 in
      let rest : Leads set t (number_of set.extents (order_at (without t set.list) k).high) (number_of set.extents y) = path_of_walk (order_at (without t set.list) k).high y ks w.2 in
      let P : ℕ → Type 0 = λ p. IsPath set t p (number_of set.extents y) rest.0 in (
        a.number ∷ rest.0,
        ((a.below, a.kept), ap (λ (o : Order). number_of set.extents o.low) a.same ∙ ap (number_of set.extents) w.1, subst P (sym (ap (λ (o : Order). number_of set.extents o.high) a.same)) rest.1),
      )

  -- a strict order with a way to it and a way from it
  record Between (x y : Point) : Type 0 where
    number : ℕ
    kept : IsKept set t number
    strict : (order_at set.list number).strict ≡ true
    before : Leads set t (number_of set.extents x) (low_of set number)
    behind : Leads set t (high_of set number) (number_of set.extents y)

  strict_between : (x y : Point) (ns : List ℕ) → IsWalk (without t set.list) x y ns → shows_strict (without t set.list) ns ≡ true → Between x y
  strict_between x y [] w shows = absurd (true≢false (sym shows))
  strict_between x y (k ∷ ks) w shows =
      let a : Among t set.list (order_at (without t set.list) k) = kept_from t set.list k w.0 in
      let low : number_of set.extents x ≡ low_of set a.number = sym (ap (λ (o : Order). number_of set.extents o.low) a.same ∙ ap (number_of set.extents) w.1) in
      let high : number_of set.extents (order_at (without t set.list) k).high ≡ high_of set a.number = sym (ap (λ (o : Order). number_of set.extents o.high) a.same) in
      elim (cases_Bool (order_at (without t set.list) k).strict) [
        | inl holds ↦
            (let P : ℕ → Type 0 = λ p. Leads set t p (number_of set.extents y) in record {
              number = a.number;
              kept = (a.below, a.kept);
              strict = ap (λ (o : Order). o.strict) a.same ∙ holds;
              before = ([], low);
              behind = subst P high (path_of_walk (order_at (without t set.list) k).high y ks w.2);
            })
        | inr other ↦
            (let rest : Between (order_at (without t set.list) k).high y = strict_between (order_at (without t set.list) k).high y ks w.2 (rw other at shows) in
            let P : ℕ → Type 0 = λ p. IsPath set t p (low_of set rest.number) rest.before.0 in record {
              number = rest.number;
              kept = rest.kept;
              strict = rest.strict;
              before = (a.number ∷ rest.before.0, ((a.below, a.kept), sym low, subst P high rest.before.1));
              behind = rest.behind;
            })
      ]

  pub cycle_returns : HasCycle (without t set.list) → (n : ℕ) × IsReturn set t n
  cycle_returns cycle =
      let b : Between cycle.0 cycle.0 = strict_between cycle.0 cycle.0 cycle.1.0 cycle.1.1.0.1 cycle.1.1.1 in (
        b.number,
        (b.kept, b.strict, (b.behind.0 ++ b.before.0, path_append (high_of set b.number) (number_of set.extents cycle.0) (low_of set b.number) b.behind.0 b.before.0 b.behind.1 b.before.1)),
      )

  module _ (s : IsOrderSet set.list set.extents set.dates) where
    walk_of_path : (x y : Point) (ns : List ℕ) → IsPoint set.extents (length set.dates) x → IsPoint set.extents (length set.dates) y →
        IsPath set t (number_of set.extents x) (number_of set.extents y) ns → (ms : List ℕ) × IsWalk (without t set.list) x y ms
    walk_of_path x y [] in_x in_y p = ([], number_injective set.extents (length set.dates) x y in_x in_y p)
    walk_of_path x y (n ∷ ns) in_x in_y p =
        let b : Below t set.list (order_at set.list n) = kept_to t set.list n p.0.0 p.0.1 in
        let rest : (ms : List ℕ) × IsWalk (without t set.list) (order_at set.list n).high y ms =
        walk_of_path (order_at set.list n).high y ns (s.high_in_range n p.0.0) in_y p.2 in
        let low : (order_at set.list n).low ≡ x = number_injective set.extents (length set.dates) (order_at set.list n).low x (s.low_in_range n p.0.0) in_x p.1 in
        let P : Point → Type 0 = λ q. IsWalk (without t set.list) q y rest.0 in (
          b.number ∷ rest.0,
          (b.below, ap (λ (o : Order). o.low) b.same ∙ low, subst P (sym (ap (λ (o : Order). o.high) b.same)) rest.1),
        )

    return_cycles : (n : ℕ) → IsReturn set t n → HasCycle (without t set.list)
    return_cycles n r =
        let b : Below t set.list (order_at set.list n) = kept_to t set.list n r.0.0 r.0.1 in
        let back : (ms : List ℕ) × IsWalk (without t set.list) (order_at set.list n).high (order_at set.list n).low ms =
        walk_of_path (order_at set.list n).high (order_at set.list n).low r.2.0 (s.high_in_range n r.0.0) (s.low_in_range n r.0.0) r.2.1 in
        let P : Point → Type 0 = λ q. IsWalk (without t set.list) q (order_at set.list n).low back.0 in
        let strict : (order_at (without t set.list) b.number).strict ≡ true = ap (λ (o : Order). o.strict) b.same ∙ r.1 in (
          (order_at set.list n).low,
          (b.number ∷ back.0, ((omega arith, (b.below, ap (λ (o : Order). o.low) b.same, subst P (sym (ap (λ (o : Order). o.high) b.same)) back.1)), rw strict refl)),
        )

    pub lows_within : (k : ℕ) → k < length (without t set.list) → IsPoint set.extents (length set.dates) (order_at (without t set.list) k).low
    lows_within k h =
        let a : Among t set.list (order_at (without t set.list) k) = kept_from t set.list k h in
        let P : Order → Type 0 = λ o. IsPoint set.extents (length set.dates) o.low in
        subst P a.same (s.low_in_range a.number a.below)

    -- the orders that are kept have a cycle exactly where a strict one has a way back
    pub loop_of_return : ((n : ℕ) × IsReturn set t n) → has_strict_loop (without t set.list) set.extents (length set.dates) ≡ true
    loop_of_return r = (cycle_decided (without t set.list) set.extents (length set.dates) lows_within).0 (return_cycles r.0 r.1)

    pub return_of_loop : has_strict_loop (without t set.list) set.extents (length set.dates) ≡ true → (n : ℕ) × IsReturn set t n
    return_of_loop h = cycle_returns ((cycle_decided (without t set.list) set.extents (length set.dates) lows_within).1 h)

    same_if : (a b : Bool) → (a ≡ true → b ≡ true) → (b ≡ true → a ≡ true) → a ≡ b
    same_if true b f g = sym (f refl)
    same_if false true f g = g refl
    same_if false false f g = refl

    pub loop_told : (b : Bool) → (b ≡ true) ↔ ((n : ℕ) × IsReturn set t n) → b ≡ has_strict_loop (without t set.list) set.extents (length set.dates)
    loop_told b e = same_if b _ (λ h. loop_of_return (e.0 h)) (λ h. e.1 (return_of_loop h))
