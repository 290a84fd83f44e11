-- The order of the points: s0, e0, s1, e1 and so on, then d0, d1 and so on.
use Rattle.std.specs.Prelude.{◌==◌, ◌+◌, ◌*◌, ℕ, Bool, false}
use Rattle.order_laws.specs.declared.Point.{Point}
use Rattle.order_laws.specs.declared.Point.TheVariants.{Start, End, Date}

-- the place of a point in that order
abbrev pub number_of : ℕ → Point → ℕ
number_of extents (Start k) = 2 * k
number_of extents (End k) = 2 * k + 1
number_of extents (Date k) = 2 * extents + k

abbrev pub is_same : Point → Point → Bool
is_same (Start j) (Start k) = j == k
is_same (Start j) (End k) = false
is_same (Start j) (Date k) = false
is_same (End j) (Start k) = false
is_same (End j) (End k) = j == k
is_same (End j) (Date k) = false
is_same (Date j) (Start k) = false
is_same (Date j) (End k) = false
is_same (Date j) (Date k) = j == k
