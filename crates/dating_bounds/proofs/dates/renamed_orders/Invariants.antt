use Rattle.std.proofs.Common.{◌≡◌, map, take}
use Rattle.dating_bounds.specs.Dated.{renamed}
use Rattle.dating_bounds.proofs.dates.renamed_orders.Given as goal

abbrev pub invariant-loop-n : goal.invariant-loop-n
invariant-loop-n l = l.list.items ≡ map (renamed l.place) (take l.n l.set.list)
