use Rattle.std.proofs.Common.{◌≡◌, take, false}
use Rattle.std.specs.Prelude.{◌&&◌, nat_lt}
use Rattle.order_laws.specs.Closure.{reach_between}
use Rattle.harris_matrix.specs.Cells.{some_pass, shares_cell}
use Rattle.harris_matrix.proofs.finding.is_least.Given as goal

abbrev pub invariant-loop-b : goal.invariant-loop-b
invariant-loop-b l = some_pass (λ b. nat_lt b l.a && shares_cell (reach_between l.set.list) b l.a) (take l.b-index l.periods) ≡ false
