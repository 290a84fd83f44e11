-- Paths along the orders that a triple doesn't make, between numbered points.
use Rattle.std.specs.Prelude.{◌≡◌, ◌<◌, ◌≤◌, ℕ, true, false, List, [], ◌∷◌, length, slice_index_or}
use Rattle.order_laws.specs.Chains.{order_at}
use Rattle.order_laws.specs.Points.{number_of}
use Rattle.order_core.specs.Sets.{Orders}
use Rattle.order_conflicts.specs.Suspects.{is_made_by}

abbrev pub low_of : Orders → ℕ → ℕ
low_of set n = number_of set.extents (order_at set.list n).low

abbrev pub high_of : Orders → ℕ → ℕ
high_of set n = number_of set.extents (order_at set.list n).high

-- an order of the set that the triple doesn't make
abbrev pub IsKept : Orders → ℕ → ℕ → Type 0
IsKept set t n = (n < length set.list) × (is_made_by t (order_at set.list n) ≡ false)

-- numbers of orders, each beginning where the one before ends; there may be none
abbrev pub IsPath : Orders → ℕ → ℕ → ℕ → List ℕ → Type 0
IsPath set t x y [] = x ≡ y
IsPath set t x y (n ∷ ns) = IsKept set t n × (low_of set n ≡ x) × IsPath set t (high_of set n) y ns

-- some path leads from a point to another
abbrev pub Leads : Orders → ℕ → ℕ → ℕ → Type 0
Leads set t x y = (ns : List ℕ) × IsPath set t x y ns

-- no order leads to a greater layer
pub record AreLayers (set : Orders) (t points : ℕ) (layers : List ℕ) : Type 0 where
  pub size : length layers ≡ points
  pub falls : (n : ℕ) → IsKept set t n → slice_index_or layers (high_of set n) 0 ≤ slice_index_or layers (low_of set n) 0

-- a strict order that the triple doesn't make, from whose high end a path leads back to its low end
abbrev pub IsReturn : Orders → ℕ → ℕ → Type 0
IsReturn set t n = IsKept set t n × ((order_at set.list n).strict ≡ true) × Leads set t (high_of set n) (low_of set n)
