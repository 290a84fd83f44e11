-- Suspects: triples without whose orders the others have no cycle.
use Rattle.std.specs.Prelude.{ℕ, suc, ◌==◌, Bool, false, not, max, List, [], ◌∷◌, length, map}
use Rattle.std.specs.List.{filter, range_with_len}
use Rattle.order_laws.specs.declared.By.{By}
use Rattle.order_laws.specs.declared.By.TheVariants.{Triple, Extent, Dates}
use Rattle.order_laws.specs.declared.Order.{Order}
use Rattle.order_laws.specs.Closure.{has_strict_loop}
use Rattle.order_core.specs.Sets.{Orders}
use Rattle.order_conflicts.specs.declared.suspects.Suspect.{Suspect}
use Rattle.order_conflicts.specs.Numbers.{numbers_where}

-- whether an order comes from the triple
abbrev pub is_from : ℕ → By → Bool
is_from t (Triple k) = k == t
is_from t (Extent k) = false
is_from t Dates = false

abbrev pub is_made_by : ℕ → Order → Bool
is_made_by t order = is_from t order.by

-- the orders that a triple doesn't make
abbrev pub without : ℕ → List Order → List Order
without t orders = filter (λ order. not (is_made_by t order)) orders

abbrev pub is_suspect : Orders → ℕ → Bool
is_suspect set t = not (has_strict_loop (without t set.list) set.extents (length set.dates))

-- a number above those of all triples that orders come from
abbrev pub above : By → ℕ
above (Triple k) = suc k
above (Extent k) = 0
above Dates = 0

abbrev pub triple_bound : List Order → ℕ
triple_bound [] = 0
triple_bound (order ∷ orders) = max (above order.by) (triple_bound orders)

-- a triple, and the orders that it makes
abbrev pub suspect_of : List Order → ℕ → Suspect
suspect_of orders t = record { triple = t; orders = numbers_where (is_made_by t) orders }

-- the suspects among orders that have a cycle, by triple
abbrev pub suspects_in : Orders → List Suspect
suspects_in set = map (suspect_of set.list) (filter (is_suspect set) (range_with_len 0 (triple_bound set.list)))
