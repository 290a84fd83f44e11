-- What contracts see of a set of orders, and what every set keeps.
use Rattle.std.specs.Prelude.{zero, suc, ℕ, ◌+◌, ◌-◌, ◌<◌, ◌≤◌, ◌^◌, ◌<ℤ◌, ◌-ℤ◌, ℤ, pos, true, List, [], ◌∷◌, ◌++◌, length, slice_index_or}
use Rattle.std.specs.List.{All}
use Rattle.order_laws.specs.declared.Point.TheVariants.{Start, End, Date}
use Rattle.order_laws.specs.declared.By.TheVariants.{Extent, Dates}
use Rattle.order_laws.specs.declared.Order.{Order}
use Rattle.order_laws.specs.Chains.{order_at}
use Rattle.order_laws.specs.Tables.{IsPoint, IsOrderSet}

pub record Orders : Type 0 where
  pub extents : ℕ
  pub dates : List ℤ
  pub list : List Order

-- each of the numbers is that of an extent
abbrev pub AreExtents : ℕ → List ℕ → Type 0
AreExtents extents numbers = All (λ k. k < extents) numbers

-- each date lies strictly between -2^100 and 2^100
abbrev pub AreInstants : List ℤ → Type 0
AreInstants dates =
    (k : ℕ) → k < length dates →
    ((pos 0 -ℤ pos (2 ^ 100)) <ℤ slice_index_or dates k (pos 0)) × (slice_index_or dates k (pos 0) <ℤ pos (2 ^ 100))

pub record IsSet (extents : ℕ) (dates : List ℤ) (list : List Order) : Type 0 where
  pub few_extents : extents ≤ 2 ^ 20
  pub few_dates : length dates ≤ 2 ^ 20
  pub few_orders : length list < 2 ^ 32
  pub instants : AreInstants dates
  pub orders : IsOrderSet list extents dates

-- both points of each order are in range
pub record AreInRange (extents dates : ℕ) (list : List Order) : Type 0 where
  pub low : (n : ℕ) → n < length list → IsPoint extents dates (order_at list n).low
  pub high : (n : ℕ) → n < length list → IsPoint extents dates (order_at list n).high

pub record AreAscending (dates : List ℤ) : Type 0 where
  pub each : (k : ℕ) → k + 1 < length dates → slice_index_or dates k (pos 0) <ℤ slice_index_or dates (k + 1) (pos 0)

-- `sK < eK` for each extent
abbrev pub extent_orders : ℕ → List Order
extent_orders zero = []
extent_orders (suc k) = extent_orders k ++ record { low = Start k; high = End k; strict = true; by = Extent k } ∷ []

-- `dK < dK+1` for each of the first dates but the last
abbrev pub date_orders : ℕ → List Order
date_orders zero = []
date_orders (suc k) = date_orders k ++ record { low = Date k; high = Date (k + 1); strict = true; by = Dates } ∷ []

-- the orders of statements, then those of the extents, then those of neighbouring dates
abbrev pub completed : ℕ → ℕ → List Order → List Order
completed extents dates statements = statements ++ (extent_orders extents ++ date_orders (dates - 1))
