use Rattle.std.proofs.Common.{ℕ, ◌+◌, ◌<◌, ◌<ℤ◌, pos}
use Rattle.std.specs.Prelude.{slice_index_or}
use Rattle.order_core.proofs.statements.are_ascending.Given as goal

abbrev pub invariant-loop-k : goal.invariant-loop-k
invariant-loop-k l = (m : ℕ) → m + 1 < l.k → slice_index_or l.dates m (pos 0) <ℤ slice_index_or l.dates (m + 1) (pos 0)
