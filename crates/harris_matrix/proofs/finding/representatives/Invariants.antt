use Rattle.std.proofs.Common.{◌≡◌, take}
use Rattle.std.specs.Prelude.{filter}
use Rattle.order_laws.specs.Closure.{reach_between}
use Rattle.harris_matrix.specs.Cells.{is_least}
use Rattle.harris_matrix.proofs.finding.representatives.Given as goal

abbrev pub invariant-loop-a : goal.invariant-loop-a
invariant-loop-a l = l.least.items ≡ filter (is_least (reach_between l.set.list) l.periods) (take l.a-index l.periods)
