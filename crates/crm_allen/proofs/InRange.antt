-- The orders of a relation stand between the boundaries of its extents, and are at most four.
use Rattle.std.proofs.Common.{zero, suc, ℕ, ◌<◌, ◌≤◌, List, [], ◌∷◌, length, arith}
use Rattle.order_laws.specs.declared.Order.{Order}
use Rattle.order_laws.specs.Chains.{order_at}
use Rattle.order_laws.specs.Tables.{IsPoint}
use Rattle.order_core.specs.Sets.{AreInRange}
use Rattle.crm_allen.specs.declared.relations.Allen.{Allen}
use Rattle.crm_allen.specs.declared.relations.Allen.TheVariants.{Before, Meets, Overlaps, Finished, Contains, Starts, Equal, Started, During, Finishes, Overlapped, Met, After}
use Rattle.crm_allen.specs.Relations.{before_orders, meets_orders, overlaps_orders, finished_orders, contains_orders, relation_orders}

each_of : (P : Order → Type 0) (o : Order) (orders : List Order) → P o → ((n : ℕ) → n < length orders → P (order_at orders n)) →
    (n : ℕ) → n < length (o ∷ orders) → P (order_at (o ∷ orders) n)
each_of P o orders here there zero lt = here
each_of P o orders here there (suc n) lt = there n (omega (arith, lt))

module _ (extents dates : ℕ) where
  none : AreInRange extents dates []
  none = record { low = λ n lt. absurd (omega (arith, lt)); high = λ n lt. absurd (omega (arith, lt)) }

  more : (o : Order) (os : List Order) → IsPoint extents dates o.low → IsPoint extents dates o.high → AreInRange extents dates os → AreInRange extents dates (o ∷ os)
  more o os low high there = record {
    low = each_of (λ (p : Order). IsPoint extents dates p.low) o os low there.low;
    high = each_of (λ (p : Order). IsPoint extents dates p.high) o os high there.high;
  }

  one : (a b : ℕ) → a < extents → b < extents → AreInRange extents dates (before_orders a b)
  one a b h k = more _ _ h k none

  meeting : (a b : ℕ) → a < extents → b < extents → AreInRange extents dates (meets_orders a b)
  meeting a b h k = more _ _ h k (more _ _ k h none)

  overlapping : (a b : ℕ) → a < extents → b < extents → AreInRange extents dates (overlaps_orders a b)
  overlapping a b h k = more _ _ h k (more _ _ k h (more _ _ h k none))

  finishing : (a b : ℕ) → a < extents → b < extents → AreInRange extents dates (finished_orders a b)
  finishing a b h k = more _ _ h k (more _ _ h k (more _ _ k h none))

  containing : (a b : ℕ) → a < extents → b < extents → AreInRange extents dates (contains_orders a b)
  containing a b h k = more _ _ h k (more _ _ k h none)

  pub relation_in_range : (r : Allen) (a b : ℕ) → a < extents → b < extents → AreInRange extents dates (relation_orders r a b)
  relation_in_range Before a b h k = one a b h k
  relation_in_range Meets a b h k = meeting a b h k
  relation_in_range Overlaps a b h k = overlapping a b h k
  relation_in_range Finished a b h k = finishing a b h k
  relation_in_range Contains a b h k = containing a b h k
  relation_in_range Starts a b h k = more _ _ h k (more _ _ k h (more _ _ h k none))
  relation_in_range Equal a b h k = more _ _ h k (more _ _ k h (more _ _ h k (more _ _ k h none)))
  relation_in_range Started a b h k = more _ _ h k (more _ _ k h (more _ _ k h none))
  relation_in_range During a b h k = containing b a k h
  relation_in_range Finishes a b h k = finishing b a k h
  relation_in_range Overlapped a b h k = overlapping b a k h
  relation_in_range Met a b h k = meeting b a k h
  relation_in_range After a b h k = one b a k h

pub relation_is_short : (r : Allen) (a b : ℕ) → length (relation_orders r a b) ≤ 4
relation_is_short Before a b = omega arith
relation_is_short Meets a b = omega arith
relation_is_short Overlaps a b = omega arith
relation_is_short Finished a b = omega arith
relation_is_short Contains a b = omega arith
relation_is_short Starts a b = omega arith
relation_is_short Equal a b = omega arith
relation_is_short Started a b = omega arith
relation_is_short During a b = omega arith
relation_is_short Finishes a b = omega arith
relation_is_short Overlapped a b = omega arith
relation_is_short Met a b = omega arith
relation_is_short After a b = omega arith
