-- Triples that are marked along a chain.
use Rattle.std.proofs.Common.{zero, suc, ◌≡◌, ℕ, List, [], ◌∷◌, Bool, false, ◌+◌, ◌<◌, ◌≤◌, length, get_or, take, All, arith, ap, sym, ◌∙◌}
use Rattle.std.specs.Prelude.{◌||◌}
use Rattle.std.proofs.lemmas.List.Folds.{list_any_more}
use Rattle.order_laws.specs.declared.By.{By}
use Rattle.order_laws.specs.declared.Order.{Order}
use Rattle.order_laws.specs.declared.Point.{Point}
use Rattle.order_laws.specs.Chains.{order_at, IsWalk}
use Rattle.order_conflicts.specs.Rings.{AreMarked, IsCycle, is_on}
use Rattle.order_conflicts.specs.Suspects.{above, is_from, is_made_by, triple_bound}

pub below_bound : (orders : List Order) (n : ℕ) → n < length orders → above (order_at orders n).by ≤ triple_bound orders
below_bound [] n h = absurd (omega arith)
below_bound (o ∷ orders) zero h = omega arith
below_bound (o ∷ orders) (suc n) h = omega (arith, below_bound orders n (omega arith))

pub mark_more : (orders : List Order) (chain : List ℕ) (on now : List Bool) (k : ℕ) (by : By) → k < length chain →
    by ≡ (order_at orders (get_or chain k 0)).by → AreMarked orders (take k chain) on (triple_bound orders) → length now ≡ length on →
    ((t : ℕ) → t < length on → get_or now t false ≡ (get_or on t false || is_from t by)) →
    AreMarked orders (take (k + 1) chain) now (triple_bound orders)
mark_more orders chain on now k by h is m size marks = record {
  size = size ∙ m.size;
  each = λ t l.
      marks t (omega (arith, m.size, l))
      ∙ ap (λ b. b || is_from t by) (m.each t l)
      ∙ ap (λ b. is_on orders t (take k chain) || is_from t b) is
      ∙ sym (list_any_more (λ n. is_made_by t (order_at orders n)) chain k 0 h);
}

walk_within : (orders : List Order) (x y : Point) (ns : List ℕ) → IsWalk orders x y ns → All (λ n. n < length orders) ns
walk_within orders x y [] w = λ k d h. absurd (omega arith)
walk_within orders x y (n ∷ ns) w = λ k. elim k as (λ j. (d : ℕ) → j < length (n ∷ ns) → get_or (n ∷ ns) j d < length orders) [
  | zero ↦ λ d h. w.0
  | suc j ↦ λ d h. walk_within orders (order_at orders n).high y ns w.2 j d (omega arith)
]

-- the orders of a cycle are in range
pub cycle_within : (orders : List Order) (ns : List ℕ) → IsCycle orders ns → All (λ n. n < length orders) ns
cycle_within orders ns cycle = walk_within orders cycle.0 cycle.0 ns cycle.1.0.1
