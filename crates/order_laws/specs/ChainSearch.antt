-- The first chain between two points, and the first cycle, computed.
use Rattle.std.specs.Prelude.{zero, suc, ◌+◌, ◌*◌, ℕ, Bool, true, cond, not, ◌&&◌, List, [], ◌∷◌, length, Option, Some, None}
use Rattle.std.specs.Option.{option_map}
use Rattle.order_laws.specs.declared.Order.{Order}
use Rattle.order_laws.specs.declared.Point.{Point}
use Rattle.order_laws.specs.Chains.{order_at}
use Rattle.order_laws.specs.Closure.{first_strict_loop, reach_between}
use Rattle.order_laws.specs.Points.{is_same}
use Rattle.order_laws.specs.Tables.{is_strict}

-- of f 0, f 1 and so on, `count` of them, the first that is there
abbrev pub first_some : (ℕ → Option (List ℕ)) → ℕ → Option (List ℕ)
first_some f zero = None
first_some f (suc count) = elim (first_some f count) as (λ _. Option (List ℕ)) [ None ↦ f count | Some ns ↦ Some ns ]

-- of the walks of `count` orders from x to y, or of those that show `<` where the flag is set, the one
-- with the least list: its first order is the least from which the others lead on
abbrev pub least_walk : List Order → ℕ → Point → Point → Bool → Option (List ℕ)
least_walk orders zero x y strict = cond (is_same x y && not strict) (Some []) None
least_walk orders (suc count) x y strict =
    first_some
    (λ n.
    cond (is_same (order_at orders n).low x)
    (option_map (λ ns. n ∷ ns) (least_walk orders count (order_at orders n).high y (strict && not (order_at orders n).strict)))
    None)
    (length orders)

-- where a walk leads, one of at most so many orders leads too: an order is taken at most twice, among
-- three walks of the orders behind it
abbrev pub enough : List Order → ℕ
enough [] = 0
enough (order ∷ orders) = 3 * enough orders + 2

-- the first chain from x to y, or the first that shows `<` where the flag is set: by length, then by list
abbrev pub first_chain : List Order → Point → Point → Bool → Option (List ℕ)
first_chain orders x y strict = first_some (λ count. least_walk orders (suc count) x y strict) (enough orders + 1)

-- the chain that is given as the reason
abbrev pub chain_of : List Order → Point → Point → Option (List ℕ)
chain_of orders x y = first_chain orders x y (is_strict (reach_between orders x y))

-- the first cycle of the first point that has one
abbrev pub first_cycle : List Order → ℕ → ℕ → Option (List ℕ)
first_cycle orders extents dates =
    elim (first_strict_loop orders extents dates) as (λ _. Option (List ℕ)) [ None ↦ None | Some x ↦ first_chain orders x x true ]
