-- Cycles by their orders.
use Rattle.std.specs.Prelude.{◌≡◌, ◌<◌, ℕ, Bool, true, false, List, length, slice_index_or}
use Rattle.std.specs.List.{list_any}
use Rattle.order_laws.specs.declared.Order.{Order}
use Rattle.order_laws.specs.declared.Point.{Point}
use Rattle.order_laws.specs.Chains.{IsChain, order_at, shows_strict}
use Rattle.order_conflicts.specs.Suspects.{is_made_by}

-- a chain from a point to itself that shows `<`
abbrev pub IsCycle : List Order → List ℕ → Type 0
IsCycle orders ns = (x : Point) × (IsChain orders x x ns × (shows_strict orders ns ≡ true))

-- the point from which the order at a place of a chain leads
abbrev pub point_along : List Order → List ℕ → ℕ → Point
point_along orders ns k = (order_at orders (slice_index_or ns k 0)).low

-- whether the triple makes an order of the chain
abbrev pub is_on : List Order → ℕ → List ℕ → Bool
is_on orders t ns = list_any (λ n. is_made_by t (order_at orders n)) ns

-- each triple is marked where it makes an order of the chain
pub record AreMarked (orders : List Order) (ns : List ℕ) (on : List Bool) (count : ℕ) : Type 0 where
  pub size : length on ≡ count
  pub each : (t : ℕ) → t < count → slice_index_or on t false ≡ is_on orders t ns
