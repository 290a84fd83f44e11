-- The first chain between two points, and the first cycle.
use Rattle.std.specs.Prelude.{◌≡◌, ◌<◌, ℕ, Bool, true, false, List}
use Rattle.order_laws.specs.declared.Order.{Order}
use Rattle.order_laws.specs.declared.Point.{Point}
use Rattle.order_laws.specs.Chains.{IsChain, shows_strict, Follows}
use Rattle.order_laws.specs.Lists.{IsAtMost}
use Rattle.order_laws.specs.Points.{number_of}
use Rattle.order_laws.specs.Tables.{IsPoint}

-- of the chains from x to y, or of those that show `<` where the flag is set, the one with the fewest
-- orders, and among these the one with the least list of order numbers
pub record IsFirstChain (orders : List Order) (x y : Point) (strict : Bool) (ns : List ℕ) : Type 0 where
  pub chain : IsChain orders x y ns
  pub shows : strict ≡ true → shows_strict orders ns ≡ true
  pub first : (ms : List ℕ) → IsChain orders x y ms → (strict ≡ true → shows_strict orders ms ≡ true) → IsAtMost ns ms

-- the chain that is given as the reason: the first that shows `<` where `x < y` follows, else the first of all
pub record IsChainOf (orders : List Order) (x y : Point) (ns : List ℕ) : Type 0 where
  pub strictly : Follows orders x y true → IsFirstChain orders x y true ns
  pub plainly : ¬ Follows orders x y true → IsFirstChain orders x y false ns

-- the first point that has a cycle
pub record IsFirstLoop (orders : List Order) (extents dates : ℕ) (x : Point) : Type 0 where
  pub in_range : IsPoint extents dates x
  pub loops : Follows orders x x true
  pub first : (y : Point) → IsPoint extents dates y → number_of extents y < number_of extents x → ¬ Follows orders y y true

-- the first cycle of the first point that has one
pub record IsFirstCycle (orders : List Order) (extents dates : ℕ) (ns : List ℕ) : Type 0 where
  pub point : Point
  pub loop : IsFirstLoop orders extents dates point
  pub chain : IsFirstChain orders point point true ns
