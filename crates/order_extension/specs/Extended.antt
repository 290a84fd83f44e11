-- A set of orders with further orders.
use Rattle.std.specs.Prelude.{List, ◌++◌}
use Rattle.order_laws.specs.declared.Order.{Order}
use Rattle.order_core.specs.Sets.{Orders}

-- the further orders stand behind those of the set
abbrev pub extended : Orders → List Order → Orders
extended set more = record { extents = set.extents; dates = set.dates; list = set.list ++ more }
