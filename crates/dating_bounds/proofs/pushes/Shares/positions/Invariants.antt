use Rattle.std.proofs.Common.{◌≡◌, map}
use Rattle.order_laws.specs.Closure.{reach_between}
use Rattle.order_laws.specs.Tables.{boundaries}
use Rattle.dating_bounds.specs.Pushed.{pushed_at}
use Rattle.dating_bounds.proofs.pushes.Shares.positions.Given as goal

abbrev pub invariant-loop-k : goal.invariant-loop-k
invariant-loop-k l = l.positions.items ≡ map (pushed_at l.self.extents l.self.dates (reach_between l.self.list) l.date l.order) (boundaries l.k)
