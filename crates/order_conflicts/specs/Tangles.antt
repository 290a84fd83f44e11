-- Tangles: points that are before or at each other, of which one is before itself.
use Rattle.std.specs.Prelude.{ℕ, ℤ, Bool, not, ◌&&◌, List, length, take, map}
use Rattle.std.specs.List.{filter, list_any}
use Rattle.order_laws.specs.declared.Order.{Order}
use Rattle.order_laws.specs.declared.Point.{Point}
use Rattle.order_laws.specs.Closure.{reach_between}
use Rattle.order_laws.specs.Points.{number_of}
use Rattle.order_laws.specs.Tables.{is_known, is_strict, all_points}
use Rattle.order_core.specs.Sets.{Orders, completed}
use Rattle.order_conflicts.specs.declared.tangles.Tangle.{Tangle}
use Rattle.order_conflicts.specs.Cycles.{cycle_from}
use Rattle.order_conflicts.specs.Numbers.{numbers_where}

-- each of the two points is before or at the other
abbrev pub are_tied : List Order → Point → Point → Bool
are_tied orders x y = is_known (reach_between orders x y) && is_known (reach_between orders y x)

-- both ends of the order are tied to the point
abbrev pub is_tied_in : List Order → Point → Order → Bool
is_tied_in orders x order = are_tied orders x order.low && are_tied orders x order.high

-- a point that is before itself, and the first of those that are tied to it
abbrev pub is_least : Orders → Point → Bool
is_least set x =
    is_strict (reach_between set.list x x)
    && not (list_any (are_tied set.list x) (take (number_of set.extents x) (all_points set.extents (length set.dates))))

-- the least point of each tangle
abbrev pub least_points : Orders → List Point
least_points set = filter (is_least set) (all_points set.extents (length set.dates))

-- the points that are tied to a point
abbrev pub tied_points : Orders → Point → List Point
tied_points set x = filter (are_tied set.list x) (all_points set.extents (length set.dates))

-- the orders between the points of a tangle, and the first cycle of all from these
abbrev pub tangle_at : Orders → Point → Tangle
tangle_at set x =
    record { orders = numbers_where (is_tied_in set.list x) set.list; cycle = cycle_from set.list (tied_points set x) }

abbrev pub tangles_in : Orders → List Tangle
tangles_in set = map (tangle_at set) (least_points set)

-- whether a tangle lists the order
abbrev pub is_tangled : Orders → Order → Bool
is_tangled set order = list_any (λ x. is_tied_in set.list x order) (least_points set)

-- the set of statements' orders, with those of its extents and dates
abbrev pub set_of : ℕ → List ℤ → List Order → Orders
set_of extents dates statements = record { extents = extents; dates = dates; list = completed extents (length dates) statements }

-- the orders of statements that no tangle lists
abbrev pub untangled : ℕ → List ℤ → List Order → List Order
untangled extents dates statements = filter (λ order. not (is_tangled (set_of extents dates statements) order)) statements
