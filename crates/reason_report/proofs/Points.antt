-- The points of a primitive are in range.
use Rattle.std.proofs.Common.{ℕ, ◌<◌}
use Rattle.order_laws.specs.Tables.{IsPoint}
use Rattle.order_core.specs.Primitives.{points_of, side_of}
use Rattle.order_core.specs.Sides.{left_point, right_point}
use Rattle.order_core.specs.declared.primitives.Primitive.{Primitive}
use Rattle.order_core.specs.declared.sides.Side.{Side}
use Rattle.order_core.specs.declared.sides.Side.TheVariants.{StartEnd, StartStart, EndStart, EndEnd}

left_of_side : (side : Side) (a extents dates : ℕ) → a < extents → IsPoint extents dates (left_point side a)
left_of_side StartEnd a extents dates h = h
left_of_side StartStart a extents dates h = h
left_of_side EndStart a extents dates h = h
left_of_side EndEnd a extents dates h = h

right_of_side : (side : Side) (b extents dates : ℕ) → b < extents → IsPoint extents dates (right_point side b)
right_of_side StartEnd b extents dates h = h
right_of_side StartStart b extents dates h = h
right_of_side EndStart b extents dates h = h
right_of_side EndEnd b extents dates h = h

pub left_within : (p : Primitive) (a b extents dates : ℕ) → a < extents → IsPoint extents dates (points_of p a b).0
left_within p a b extents dates h = left_of_side (side_of p) a extents dates h

pub right_within : (p : Primitive) (a b extents dates : ℕ) → b < extents → IsPoint extents dates (points_of p a b).1
right_within p a b extents dates h = right_of_side (side_of p) b extents dates h
