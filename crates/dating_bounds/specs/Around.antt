-- The dates that bound a boundary from below and from above.
use Rattle.std.specs.Prelude.{zero, suc, ℕ, ◌≡◌, ◌<◌, ◌↔◌, Bool, true, false, cond, nat_lt, length, Option, Some, None}
use Rattle.order_laws.specs.declared.Point.{Point}
use Rattle.order_laws.specs.declared.Point.TheVariants.{Start, End, Date}
use Rattle.order_laws.specs.declared.Reach.{Reach}
use Rattle.order_laws.specs.Closure.{reach_between}
use Rattle.order_laws.specs.Placings.{AlwaysStand}
use Rattle.order_laws.specs.Tables.{is_known, is_strict, floor_of}
use Rattle.order_core.specs.Sets.{Orders}
use Rattle.dating_bounds.specs.declared.extremes.Bound.{Bound}
use Rattle.dating_bounds.specs.declared.extremes.DateBound.{DateBound}

-- the start or the end of an extent
abbrev pub IsBoundary : ℕ → Point → Type 0
IsBoundary extents (Start k) = k < extents
IsBoundary extents (End k) = k < extents
IsBoundary extents (Date k) = ⊥

-- every placing that satisfies the set has x at or before y, or before it where the flag is set
abbrev pub Always : Orders → Point → Point → Bool → Type 0
Always set x y strict = AlwaysStand set.list set.dates set.extents x y strict

-- the last date that is at or before p in every satisfying placing; strict where it is before p in each
pub record IsLastBefore (set : Orders) (p : Point) (bound : DateBound) : Type 0 where
  pub within : bound.date < length set.dates
  pub before : Always set (Date bound.date) p false
  pub last : (d : ℕ) → bound.date < d → d < length set.dates → ¬ Always set (Date d) p false
  pub strictly : (bound.strict ≡ true) ↔ Always set (Date bound.date) p true

-- the first date that is at or after p in every satisfying placing; strict where it is after p in each
pub record IsFirstAfter (set : Orders) (p : Point) (bound : DateBound) : Type 0 where
  pub within : bound.date < length set.dates
  pub after : Always set p (Date bound.date) false
  pub first : (d : ℕ) → d < bound.date → ¬ Always set p (Date d) false
  pub strictly : (bound.strict ≡ true) ↔ Always set p (Date bound.date) true

-- none where no date is so
abbrev pub IsLow : Orders → Point → Option DateBound → Type 0
IsLow set p None = (d : ℕ) → d < length set.dates → ¬ Always set (Date d) p false
IsLow set p (Some bound) = IsLastBefore set p bound

abbrev pub IsHigh : Orders → Point → Option DateBound → Type 0
IsHigh set p None = (d : ℕ) → d < length set.dates → ¬ Always set p (Date d) false
IsHigh set p (Some bound) = IsFirstAfter set p bound

pub record IsBoundOf (set : Orders) (p : Point) (bound : Bound) : Type 0 where
  pub low : IsLow set p bound.low
  pub high : IsHigh set p bound.high

-- as many of the dates as end with the last that p is not known to be at or before
abbrev pub ceiling_of : (Point → Point → Reach) → ℕ → Point → ℕ
ceiling_of table zero p = 0
ceiling_of table (suc k) p = cond (is_known (table p (Date k))) (ceiling_of table k p) (suc k)

-- the last date that is known to be at or before p, behind which is its floor
abbrev pub low_at : (Point → Point → Reach) → Point → ℕ → Option DateBound
low_at table p zero = None
low_at table p (suc k) = Some (record { date = k; strict = is_strict (table (Date k) p) })

-- the first of the dates that p is known to be at or before
abbrev pub high_at : (Point → Point → Reach) → ℕ → Point → ℕ → Option DateBound
high_at table dates p k = cond (nat_lt k dates) (Some (record { date = k; strict = is_strict (table p (Date k)) })) None

abbrev pub bound_in : (Point → Point → Reach) → ℕ → Point → Bound
bound_in table dates p = record {
  low = low_at table p (floor_of table dates p);
  high = high_at table dates p (ceiling_of table dates p);
}

-- the bounds of p by what follows from the orders
abbrev pub bound_of : Orders → Point → Bound
bound_of set p = bound_in (reach_between set.list) (length set.dates) p
