use Rattle.std.proofs.Common.{◌≡◌, take}
use Rattle.boundary_orders.specs.Dossiers.{periods_from}
use Rattle.boundary_orders.proofs.dossier.find_periods.Given as goal

abbrev pub invariant-loop-k : goal.invariant-loop-k
invariant-loop-k l = l.periods ≡ periods_from 0 (take l.k l.extents.entries)
