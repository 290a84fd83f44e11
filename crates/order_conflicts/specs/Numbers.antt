-- The numbers of the orders that pass a test.
use Rattle.std.specs.Prelude.{ℕ, Bool, List, length}
use Rattle.std.specs.List.{filter, range_with_len}
use Rattle.order_laws.specs.declared.Order.{Order}
use Rattle.order_laws.specs.Chains.{order_at}

-- ascending
abbrev pub numbers_where : (Order → Bool) → List Order → List ℕ
numbers_where test orders = filter (λ n. test (order_at orders n)) (range_with_len 0 (length orders))
