-- The wider relations of a boundary, and the placings of a set of orders.
use Rattle.std.specs.Prelude.{ℕ, ℤ, cond, not, ◌||◌, ◌&&◌, List}
use Rattle.order_laws.specs.declared.Order.{Order}
use Rattle.order_laws.specs.declared.Point.{Point}
use Rattle.order_laws.specs.declared.Position.{Position}
use Rattle.order_laws.specs.declared.Reach.{Reach}
use Rattle.order_laws.specs.declared.Reach.TheVariants.{None as Nothing, Le, Lt}
use Rattle.order_laws.specs.Closure.{reach_between}
use Rattle.order_laws.specs.Tables.{is_known, is_strict, built}

-- from what is known of x to y, of x to z and of y to z: y is before z where that is known, or where
-- `x <= z` is known and `x <= y` is not, or `x < z` is and `x < y` is not; y is before or at z where
-- that is known, or where `x <= z` is known and `x < y` is not
abbrev pub widened : Reach → Reach → Reach → Reach
widened xy xz yz =
    cond (is_strict yz || (is_known xz && not (is_known xy)) || (is_strict xz && not (is_strict xy))) Lt
    (cond (is_known yz || (is_known xz && not (is_strict xy))) Le Nothing)

-- the table of the wider relations of x
abbrev pub wider : (Point → Point → Reach) → Point → Point → Point → Reach
wider table x y z = widened (table x y) (table x z) (table y z)

-- the plain placing of the orders
abbrev pub plain_placing : List Order → ℕ → List ℤ → List Position
plain_placing orders extents dates = built extents dates (reach_between orders)

-- the delaying placing of the boundary x
abbrev pub delaying_placing : List Order → ℕ → List ℤ → Point → List Position
delaying_placing orders extents dates x = built extents dates (wider (reach_between orders) x)
