use Rattle.std.proofs.Common.{ℕ, ◌<◌, ◌≤◌, get_or}
use Rattle.order_conflicts.specs.Paths.{IsKept, low_of, high_of}
use Rattle.order_conflicts.proofs.layers.are_layers.Given as goal

abbrev pub invariant-loop-n : goal.invariant-loop-n
invariant-loop-n l = (m : ℕ) → m < l.n → IsKept l.set l.triple m → get_or l.layers (high_of l.set m) 0 ≤ get_or l.layers (low_of l.set m) 0
