-- The first cycle of all from some points.
use Rattle.std.specs.Prelude.{ℕ, ◌==◌, ◌&&◌, ◌||◌, nat_lt, Bool, true, cond, List, [], ◌∷◌, length, slice_index_or, unwrap_or, Option, None, Some}
use Rattle.order_laws.specs.declared.Order.{Order}
use Rattle.order_laws.specs.declared.Point.{Point}
use Rattle.order_laws.specs.ChainSearch.{first_chain}

-- whether a chain comes before another that begins with another order: it has fewer orders, or as many and a lesser first one
abbrev pub is_before : List ℕ → List ℕ → Bool
is_before xs ys =
    nat_lt (length xs) (length ys) || ((length xs == length ys) && nat_lt (slice_index_or xs 0 0) (slice_index_or ys 0 0))

-- the one that comes before the other
abbrev pub earlier : Option (List ℕ) → Option (List ℕ) → Option (List ℕ)
earlier None other = other
earlier (Some xs) None = Some xs
earlier (Some xs) (Some ys) = cond (is_before ys xs) (Some ys) (Some xs)

-- of a chain and the first cycles of the points, the first one
abbrev pub earliest : List Order → Option (List ℕ) → List Point → Option (List ℕ)
earliest orders best [] = best
earliest orders best (x ∷ xs) = earliest orders (earlier best (first_chain orders x x true)) xs

-- the first cycle of all from the points; empty where none of them has one
abbrev pub cycle_from : List Order → List Point → List ℕ
cycle_from orders points = unwrap_or (earliest orders None points) []
