use Rattle.std.proofs.Common.{ℕ, ◌<◌}
use Rattle.order_conflicts.specs.Paths.{IsReturn}
use Rattle.order_conflicts.proofs.without.find_return.Given as goal

abbrev pub invariant-loop-n : goal.invariant-loop-n
invariant-loop-n g l = (m : ℕ) → m < l.n → ¬ IsReturn l.set l.triple m
