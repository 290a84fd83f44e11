use Rattle.std.proofs.Common.{◌≡◌, take}
use Rattle.std.specs.Prelude.{filter}
use Rattle.order_laws.specs.Closure.{reach_between}
use Rattle.harris_matrix.specs.Cells.{shares_cell}
use Rattle.harris_matrix.proofs.finding.members.Given as goal

abbrev pub invariant-loop-b : goal.invariant-loop-b
invariant-loop-b l = l.extents ≡ filter (shares_cell (reach_between l.set.list) l.a) (take l.b-index l.periods)
