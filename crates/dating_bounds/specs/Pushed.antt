-- The plain placing with one more order between a boundary and a date, from what is known without it.
use Rattle.std.specs.Prelude.{if◌then◌else◌, suc, ℕ, ℤ, pos, ◌≡◌, ◌⊎◌, ◌&&◌, ◌||◌, not, leb, cond, true, false, Bool, List, length, map, slice_index_or}
use Rattle.order_laws.specs.declared.Order.{Order}
use Rattle.order_laws.specs.declared.Point.{Point}
use Rattle.order_laws.specs.declared.Point.TheVariants.{Start, End, Date}
use Rattle.order_laws.specs.declared.Position.{Position}
use Rattle.order_laws.specs.declared.Reach.{Reach}
use Rattle.order_laws.specs.Chains.{HasCycle}
use Rattle.order_laws.specs.Closure.{reach_between}
use Rattle.order_laws.specs.Wider.{plain_placing}
use Rattle.order_laws.specs.Tables.{is_known, is_strict, all_points, boundaries, floor_of, count_where, built_at}
use Rattle.order_core.specs.Sets.{Orders}
use Rattle.order_closure.specs.Closures.{Closed, IsClosureOf}
use Rattle.order_closure.specs.Columns.{IsColumnsOf}
use Rattle.order_closure.specs.Rows.{bit_of}
use Rattle.dating_bounds.specs.Moment.{is_enough, order_to}

-- the order puts a point after the date that it need not be at or before, or at or before the one that it need not be after
abbrev pub IsPush : (Point → Point → Reach) → ℕ → Order → Type 0
IsPush table date order =
    ((order.low ≡ Date date) × (order.strict ≡ true) × (is_known (table order.high (Date date)) ≡ false))
    ⊎ ((order.high ≡ Date date) × (order.strict ≡ false) × (is_strict (table (Date date) order.low) ≡ false))

-- p is behind the order, and not known to be at or after a later date: so it gets the date's instant
abbrev pub is_pushed : (Point → Point → Reach) → ℕ → ℕ → Order → Point → Bool
is_pushed table dates date order p = is_enough (not order.strict) (table order.high p) && leb (floor_of table dates p) (suc date)

-- the points at the instant that are before p, which is pushed
abbrev pub is_passed : (Point → Point → Reach) → ℕ → Order → Point → Point → Bool
is_passed table date order p q =
    (is_known (table (Date date) q) && is_known (table q order.low))
    || (is_strict (table q p) && (is_known (table (Date date) q) || is_known (table order.high q)))

abbrev pub passed_rank : ℕ → ℕ → (Point → Point → Reach) → ℕ → Order → Point → ℕ
passed_rank extents dates table date order p = count_where (is_passed table date order p) (all_points extents dates)

-- what is pushed stands at the date's instant, all else where the plain placing has it
abbrev pub pushed_at : ℕ → List ℤ → (Point → Point → Reach) → ℕ → Order → Point → Position
pushed_at extents dates table date order p =
    cond (is_pushed table (length dates) date order p)
    (record { instant = slice_index_or dates date (pos 0); rank = passed_rank extents (length dates) table date order p })
    (built_at extents dates table p)

abbrev pub pushed : ℕ → List ℤ → (Point → Point → Reach) → ℕ → Order → List Position
pushed extents dates table date order = map (pushed_at extents dates table date order) (boundaries extents)

-- the same of the point of a number, from the rows of what is at or after the date, at or before the order's low point, at or after its
-- high point, and before p
abbrev pub is_set_passed : List ℕ → List ℕ → List ℕ → List ℕ → ℕ → Bool
is_set_passed level below ahead before n = (bit_of level 0 n && bit_of below 0 n) || (bit_of before 0 n && (bit_of level 0 n || bit_of ahead 0 n))

-- the columns of the orders and their plain placing
pub record AreShares (set : Orders) (closure columns : Closed) (plain : List Position) : Type 0 where
  pub closed : IsClosureOf set closure
  pub consistent : ¬ HasCycle set.list
  pub columned : IsColumnsOf set columns
  pub placed : plain ≡ plain_placing set.list set.extents set.dates

-- the one of the orders of an extent under way that does not follow with the other, where they may be added
abbrev pub inside_order : (Point → Point → Reach) → ℕ → ℕ → Order
inside_order table date k =
    if is_known (table (Date date) (Start k)) then order_to k (Start k) (Date date) false else order_to k (Date date) (End k) true

-- `x <= y` follows from the orders, or `x < y` where that is asked
abbrev pub is_told : List Order → Point → Point → Bool → Bool
is_told orders x y strict = is_enough strict (reach_between orders x y)
