-- What follows from a list of orders, computed by joining one order at a time.
use Rattle.std.specs.Prelude.{ℕ, Bool, true, false, cond, ◌||◌, ◌&&◌, List, [], ◌∷◌, Option, Some, None}
use Rattle.order_laws.specs.declared.Order.{Order}
use Rattle.order_laws.specs.declared.Point.{Point}
use Rattle.order_laws.specs.declared.Reach.{Reach}
use Rattle.order_laws.specs.declared.Reach.TheVariants.{None as Nothing, Le, Lt}
use Rattle.order_laws.specs.Points.{is_same}
use Rattle.order_laws.specs.Tables.{is_known, is_strict, all_points}

-- what is known of x to z, from what is known of x to y and of y to z
abbrev pub followed_by : Reach → Reach → Reach
followed_by r s = cond (is_known r && is_known s) (cond (is_strict r || is_strict s) Lt Le) Nothing

-- the one that says more
abbrev pub stronger : Reach → Reach → Reach
stronger r s = cond (is_strict r || is_strict s) Lt (cond (is_known r || is_known s) Le Nothing)

-- from the low to the high point of an order: by the order once, or twice with the way back between
abbrev pub across : (Point → Point → Reach) → Order → Reach
across table order = cond (order.strict || is_strict (table order.high order.low)) Lt Le

-- what is known after an order joins: what was known, or through the order
abbrev pub joined : (Point → Point → Reach) → Order → Point → Point → Reach
joined table order x y =
    stronger (table x y) (followed_by (table x order.low) (followed_by (across table order) (table order.high y)))

-- what follows from x to y
abbrev pub reach_between : List Order → Point → Point → Reach
reach_between [] x y = cond (is_same x y) Le Nothing
reach_between (order ∷ orders) x y = joined (reach_between orders) order x y

abbrev pub first_where : (Point → Bool) → List Point → Option Point
first_where test [] = None
first_where test (x ∷ xs) = cond (test x) (Some x) (first_where test xs)

-- the first point that is before itself
abbrev pub first_strict_loop : List Order → ℕ → ℕ → Option Point
first_strict_loop orders extents dates = first_where (λ x. is_strict (reach_between orders x x)) (all_points extents dates)

-- the orders have a cycle
abbrev pub has_strict_loop : List Order → ℕ → ℕ → Bool
has_strict_loop orders extents dates =
    elim (first_strict_loop orders extents dates) as (λ _. Bool) [ None ↦ false | Some _ ↦ true ]
