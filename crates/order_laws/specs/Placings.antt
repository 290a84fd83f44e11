-- Placings of the boundaries, and the orders that they satisfy.
use Rattle.std.specs.Prelude.{◌≡◌, ◌<◌, ◌+◌, ◌*◌, ℕ, ℤ, pos, Bool, List, length, slice_index_or}
use Rattle.order_laws.specs.declared.Point.{Point}
use Rattle.order_laws.specs.declared.Point.TheVariants.{Start, End, Date}
use Rattle.order_laws.specs.declared.Order.{Order}
use Rattle.order_laws.specs.declared.Position.{Position}
use Rattle.order_laws.specs.Chains.{order_at}
use Rattle.order_laws.specs.Positions.{Stand}

abbrev pub no_position : Position
no_position = record { instant = pos 0; rank = 0 }

-- a placing lists the positions of s0, e0, s1, e1 and so on; a date stands at its instant, with rank 0
abbrev pub position_at : List ℤ → List Position → Point → Position
position_at dates placing (Start k) = slice_index_or placing (2 * k) no_position
position_at dates placing (End k) = slice_index_or placing (2 * k + 1) no_position
position_at dates placing (Date k) = record { instant = slice_index_or dates k (pos 0); rank = 0 }

-- every order stands so
abbrev pub IsSatisfied : List Order → List ℤ → List Position → Type 0
IsSatisfied orders dates placing =
    (n : ℕ) → n < length orders →
    Stand (order_at orders n).strict
    (position_at dates placing (order_at orders n).low)
    (position_at dates placing (order_at orders n).high)

-- some placing of the extents satisfies the orders
abbrev pub IsConsistent : List Order → List ℤ → ℕ → Type 0
IsConsistent orders dates extents =
    (placing : List Position) × ((length placing ≡ 2 * extents) × IsSatisfied orders dates placing)

-- every satisfying placing of the extents has x at or before y, or before it where the flag is set
abbrev pub AlwaysStand : List Order → List ℤ → ℕ → Point → Point → Bool → Type 0
AlwaysStand orders dates extents x y strict =
    (placing : List Position) → length placing ≡ 2 * extents → IsSatisfied orders dates placing →
    Stand strict (position_at dates placing x) (position_at dates placing y)
