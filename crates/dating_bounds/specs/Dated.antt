-- A set of orders with an instant among its dates.
use Rattle.std.specs.Prelude.{ℕ, ℤ, pos, ◌+◌, ◌-◌, Bool, true, false, cond, nat_lt, int_le, List, [], ◌∷◌, ◌++◌, length, map, take, drop, slice_index_or}
use Rattle.std.specs.List.{position_or_len}
use Rattle.order_laws.specs.declared.Order.{Order}
use Rattle.order_laws.specs.declared.Point.{Point}
use Rattle.order_laws.specs.declared.Point.TheVariants.{Start, End, Date}
use Rattle.order_laws.specs.declared.By.TheVariants.{Dates}
use Rattle.order_core.specs.Sets.{Orders}

-- the number of the first date that is not before the instant, or the count of dates
abbrev pub place_of : List ℤ → ℤ → ℕ
place_of dates t = position_or_len (int_le t) dates

-- the instant is one of ascending dates
abbrev pub is_dated : List ℤ → ℤ → Bool
is_dated dates t = cond (nat_lt (place_of dates t) (length dates)) (int_le (slice_index_or dates (place_of dates t) (pos 0)) t) false

-- a date from the place of a new one on gets the next number
abbrev pub moved : ℕ → Point → Point
moved at (Start k) = Start k
moved at (End k) = End k
moved at (Date k) = Date (cond (nat_lt k at) k (k + 1))

abbrev pub renamed : ℕ → Order → Order
renamed at order = record { low = moved at order.low; high = moved at order.high; strict = order.strict; by = order.by }

-- `dJ < dK`
abbrev pub date_order : ℕ → ℕ → Order
date_order j k = record { low = Date j; high = Date k; strict = true; by = Dates }

-- the new date is behind the date before it, and before the one behind it, where these are there
abbrev pub neighbour_orders : ℕ → ℕ → List Order
neighbour_orders at count =
    cond (nat_lt 0 at) (date_order (at - 1) at ∷ []) [] ++ cond (nat_lt at count) (date_order at (at + 1) ∷ []) []

-- the set with a new date at a place
abbrev pub inserted : Orders → ℕ → ℤ → Orders
inserted set at t = record {
  extents = set.extents;
  dates = take at set.dates ++ t ∷ drop at set.dates;
  list = map (renamed at) set.list ++ neighbour_orders at (length set.dates);
}

-- the set with the instant among its dates
abbrev pub dated : Orders → ℤ → Orders
dated set t = cond (is_dated set.dates t) set (inserted set (place_of set.dates t) t)
