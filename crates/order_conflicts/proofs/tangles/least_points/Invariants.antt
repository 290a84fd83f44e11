use Rattle.std.proofs.Common.{◌≡◌, take, length, All}
use Rattle.std.specs.List.{filter}
use Rattle.order_laws.specs.Tables.{IsPoint}
use Rattle.order_conflicts.specs.Tangles.{is_least}
use Rattle.order_conflicts.proofs.tangles.least_points.Given as goal

abbrev pub invariant-loop-k : goal.invariant-loop-k
invariant-loop-k l = record {
  value : l.least.items ≡ filter (is_least l.analysis.set) (take l.k l.points);
  within : All (IsPoint l.analysis.set.extents (length l.analysis.set.dates)) l.least.items;
}
