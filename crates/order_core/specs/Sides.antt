-- The four sides of two extents.
use Rattle.std.specs.Prelude.{ℕ, List, [], ◌∷◌, codes}
use Rattle.order_laws.specs.declared.Point.{Point}
use Rattle.order_laws.specs.declared.Point.TheVariants.{Start, End}
use Rattle.order_core.specs.declared.sides.Side.{Side}
use Rattle.order_core.specs.declared.sides.Side.TheVariants.{StartEnd, StartStart, EndStart, EndEnd}

-- the boundary of the left extent, and that of the right one
abbrev pub left_point : Side → ℕ → Point
left_point StartEnd a = Start a
left_point StartStart a = Start a
left_point EndStart a = End a
left_point EndEnd a = End a

abbrev pub right_point : Side → ℕ → Point
right_point StartEnd b = End b
right_point StartStart b = Start b
right_point EndStart b = Start b
right_point EndEnd b = End b

abbrev pub side_name : Side → List ℕ
side_name StartEnd = codes "se"
side_name StartStart = codes "ss"
side_name EndStart = codes "es"
side_name EndEnd = codes "ee"

abbrev pub all_sides : List Side
all_sides = StartEnd ∷ StartStart ∷ EndStart ∷ EndEnd ∷ []
