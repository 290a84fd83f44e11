-- What an analysis is about, and what it keeps.
use Rattle.std.specs.Prelude.{ℕ, ◌≡◌, ◌≤◌, ◌^◌, List, length, Option, IfNone}
use Rattle.order_laws.specs.Chains.{HasCycle}
use Rattle.order_laws.specs.ChainSearch.{first_cycle}
use Rattle.order_core.specs.Sets.{Orders, AreExtents}
use Rattle.order_closure.specs.Closures.{Closed, IsClosureOf}
use Rattle.order_closure.specs.Edges.{EdgeLists, IsEdgesOf}

-- a set of orders, and the numbers of the periods among its extents
pub record Subject : Type 0 where
  pub set : Orders
  pub periods : List ℕ

-- the first cycle of the orders, if they have one
abbrev pub cycle_of : Orders → Option (List ℕ)
cycle_of set = first_cycle set.list set.extents (length set.dates)

-- the edges, the closure and the cycle are those of the set
pub record IsAnalysis (set : Orders) (periods : List ℕ) (edges : EdgeLists) (closure : Closed) (cycle : Option (List ℕ)) : Type 0 where
  pub linked : IsEdgesOf set edges
  pub closed : IsClosureOf set closure
  pub first : cycle ≡ cycle_of set
  pub consistent : IfNone cycle (¬ HasCycle set.list)
  pub within : AreExtents set.extents periods
  pub few : length periods ≤ 2 ^ 20
