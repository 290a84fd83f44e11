-- What follows on a side of two extents, and the chain that shows what follows between two points.
use Rattle.std.specs.Prelude.{ℕ, List, [], unwrap_or}
use Rattle.order_laws.specs.declared.Order.{Order}
use Rattle.order_laws.specs.declared.Point.{Point}
use Rattle.order_laws.specs.declared.Reach.{Reach}
use Rattle.order_laws.specs.ChainSearch.{chain_of}
use Rattle.order_laws.specs.Closure.{reach_between}
use Rattle.order_core.specs.declared.sides.Side.{Side}
use Rattle.order_core.specs.Sides.{left_point, right_point}

abbrev pub reach_at : List Order → ℕ → ℕ → Side → Reach
reach_at orders a b side = reach_between orders (left_point side a) (right_point side b)

-- the numbers of the orders of the chain from a point to another
abbrev pub reason_of : List Order → Point → Point → List ℕ
reason_of orders x y = unwrap_or (chain_of orders x y) []
