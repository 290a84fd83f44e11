-- All that contradicts itself in a set of orders.
use Rattle.std.specs.Prelude.{Bool, true, false, length, Option, None, Some}
use Rattle.order_laws.specs.Closure.{has_strict_loop}
use Rattle.order_core.specs.Sets.{Orders}
use Rattle.order_conflicts.specs.declared.conflicts.Conflicts.{Conflicts}
use Rattle.order_conflicts.specs.Tangles.{tangles_in}
use Rattle.order_conflicts.specs.Suspects.{suspects_in}

abbrev pub conflicts_where : Orders → Bool → Option Conflicts
conflicts_where set true = Some (record { tangles = tangles_in set; suspects = suspects_in set })
conflicts_where set false = None

-- the tangles and the suspects, where the orders have a cycle
abbrev pub conflicts_in : Orders → Option Conflicts
conflicts_in set = conflicts_where set (has_strict_loop set.list set.extents (length set.dates))
