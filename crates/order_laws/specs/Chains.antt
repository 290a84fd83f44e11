-- Chains of orders, by the numbers of the orders.
use Rattle.std.specs.Prelude.{◌≡◌, ◌<◌, ℕ, ◌⊎◌, Bool, true, false, ◌||◌, List, [], ◌∷◌, length, slice_index_or}
use Rattle.order_laws.specs.declared.Point.{Point}
use Rattle.order_laws.specs.declared.Point.TheVariants.{Start}
use Rattle.order_laws.specs.declared.By.TheVariants.{Triple}
use Rattle.order_laws.specs.declared.Order.{Order}

-- stands where no order has the number; the definitions below never look there
abbrev pub no_order : Order
no_order = record { low = Start 0; high = Start 0; strict = false; by = Triple 0 }

abbrev pub order_at : List Order → ℕ → Order
order_at orders n = slice_index_or orders n no_order

-- a list of order numbers, each order beginning where the one before ends: from x, to y; it may be empty
abbrev pub IsWalk : List Order → Point → Point → List ℕ → Type 0
IsWalk orders x y [] = x ≡ y
IsWalk orders x y (n ∷ ns) =
    (n < length orders) × ((order_at orders n).low ≡ x) × IsWalk orders (order_at orders n).high y ns

-- a walk of at least one order
abbrev pub IsChain : List Order → Point → Point → List ℕ → Type 0
IsChain orders x y ns = (0 < length ns) × IsWalk orders x y ns

-- one of the orders is strict
abbrev pub shows_strict : List Order → List ℕ → Bool
shows_strict orders [] = false
shows_strict orders (n ∷ ns) = (order_at orders n).strict || shows_strict orders ns

-- what follows: `x < y` by a chain that shows `<`; `x <= y` by a chain, or where x is y
abbrev pub Follows : List Order → Point → Point → Bool → Type 0
Follows orders x y true = (ns : List ℕ) × (IsChain orders x y ns × (shows_strict orders ns ≡ true))
Follows orders x y false = (x ≡ y) ⊎ ((ns : List ℕ) × IsChain orders x y ns)

-- a cycle is a chain from a point to itself that shows `<`
abbrev pub HasCycle : List Order → Type 0
HasCycle orders = (x : Point) × Follows orders x x true
