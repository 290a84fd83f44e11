-- Tables of what is known between points, and the placing that is built from one.
use Rattle.std.specs.Prelude.{zero, suc, ◌≡◌, ◌<◌, ◌+◌, ◌==◌, ◌&&◌, ◌||◌, ◌↔◌, ◌<ℤ◌, ◌-ℤ◌, ℕ, ℤ, pos, Bool, true, false, cond, List, [], ◌∷◌, ◌++◌, length, slice_index_or, map}
use Rattle.order_laws.specs.declared.Point.{Point}
use Rattle.order_laws.specs.declared.Point.TheVariants.{Start, End, Date}
use Rattle.order_laws.specs.declared.Order.{Order}
use Rattle.order_laws.specs.declared.Position.{Position}
use Rattle.order_laws.specs.declared.Reach.{Reach}
use Rattle.order_laws.specs.declared.Reach.TheVariants.{None as Nothing, Le, Lt}
use Rattle.order_laws.specs.Chains.{order_at, Follows}

abbrev pub is_known : Reach → Bool
is_known Nothing = false
is_known Le = true
is_known Lt = true

abbrev pub is_strict : Reach → Bool
is_strict Nothing = false
is_strict Le = false
is_strict Lt = true

abbrev pub IsPoint : ℕ → ℕ → Point → Type 0
IsPoint extents dates (Start k) = k < extents
IsPoint extents dates (End k) = k < extents
IsPoint extents dates (Date k) = k < dates

-- s0, e0, s1, e1 and so on
abbrev pub boundaries : ℕ → List Point
boundaries zero = []
boundaries (suc k) = boundaries k ++ Start k ∷ End k ∷ []

-- d0, d1 and so on
abbrev pub date_points : ℕ → List Point
date_points zero = []
date_points (suc k) = date_points k ++ Date k ∷ []

abbrev pub all_points : ℕ → ℕ → List Point
all_points extents dates = boundaries extents ++ date_points dates

-- the floor of a point: of the first `count` dates, one more than the number of the greatest that is
-- known to be at or before it, or 0 where none is
abbrev pub floor_of : (Point → Point → Reach) → ℕ → Point → ℕ
floor_of table zero p = 0
floor_of table (suc k) p = cond (is_known (table (Date k) p)) (suc k) (floor_of table k p)

-- the instant of a floor: the date's, and below all dates one before the least, or 0 where there are none
abbrev pub lowest : List ℤ → ℤ
lowest [] = pos 0
lowest (t ∷ ts) = t -ℤ pos 1

abbrev pub floor_instant : List ℤ → ℕ → ℤ
floor_instant dates zero = lowest dates
floor_instant dates (suc k) = slice_index_or dates k (pos 0)

-- how many of the points pass the test
abbrev pub count_where : (Point → Bool) → List Point → ℕ
count_where test [] = 0
count_where test (x ∷ xs) = cond (test x) 1 0 + count_where test xs

-- q is known to be before p, and their floors are one
abbrev pub counts : (Point → Point → Reach) → ℕ → Point → Point → Bool
counts table dates p q = is_strict (table q p) && (floor_of table dates q == floor_of table dates p)

-- the built position: the floor, and the number of points below it with the same floor
abbrev pub built_at : ℕ → List ℤ → (Point → Point → Reach) → Point → Position
built_at extents dates table p = record {
  instant = floor_instant dates (floor_of table (length dates) p);
  rank = count_where (counts table (length dates) p) (all_points extents (length dates));
}

abbrev pub built : ℕ → List ℤ → (Point → Point → Reach) → List Position
built extents dates table = map (built_at extents dates table) (boundaries extents)

-- what a set of orders over extents and ascending dates keeps
pub record IsOrderSet (orders : List Order) (extents : ℕ) (dates : List ℤ) : Type 0 where
  pub low_in_range : (n : ℕ) → n < length orders → IsPoint extents (length dates) (order_at orders n).low
  pub high_in_range : (n : ℕ) → n < length orders → IsPoint extents (length dates) (order_at orders n).high
  pub ascending : (k : ℕ) → k + 1 < length dates → slice_index_or dates k (pos 0) <ℤ slice_index_or dates (k + 1) (pos 0)
  pub neighbours : (k : ℕ) → k + 1 < length dates →
      (n : ℕ) × ((n < length orders) × ((order_at orders n).low ≡ Date k) × ((order_at orders n).high ≡ Date (k + 1)) × ((order_at orders n).strict ≡ true))
  pub starts_before_ends : (k : ℕ) → k < extents →
      (n : ℕ) × ((n < length orders) × ((order_at orders n).low ≡ Start k) × ((order_at orders n).high ≡ End k) × ((order_at orders n).strict ≡ true))

-- the five conditions on a table: it keeps the orders, and what is known of two joins
pub record IsOrderly (orders : List Order) (extents dates : ℕ) (table : Point → Point → Reach) : Type 0 where
  pub itself : (x : Point) → IsPoint extents dates x → table x x ≡ Le
  pub joins : (x y z : Point) → IsPoint extents dates x → IsPoint extents dates y → IsPoint extents dates z →
      is_known (table x y) ≡ true → is_known (table y z) ≡ true → is_known (table x z) ≡ true
  pub joins_strictly : (x y z : Point) → IsPoint extents dates x → IsPoint extents dates y → IsPoint extents dates z →
      is_known (table x y) ≡ true → is_known (table y z) ≡ true → (is_strict (table x y) || is_strict (table y z)) ≡ true →
      is_strict (table x z) ≡ true
  pub keeps : (n : ℕ) → n < length orders → is_known (table (order_at orders n).low (order_at orders n).high) ≡ true
  pub keeps_strictly : (n : ℕ) → n < length orders → (order_at orders n).strict ≡ true →
      is_strict (table (order_at orders n).low (order_at orders n).high) ≡ true

-- the table of what follows: Lt where a strict chain exists, else Le where a chain exists or the points are one
pub record IsBase (orders : List Order) (extents dates : ℕ) (table : Point → Point → Reach) : Type 0 where
  pub strictly : (x y : Point) → IsPoint extents dates x → IsPoint extents dates y → (table x y ≡ Lt) ↔ Follows orders x y true
  pub known : (x y : Point) → IsPoint extents dates x → IsPoint extents dates y → (is_known (table x y) ≡ true) ↔ Follows orders x y false
