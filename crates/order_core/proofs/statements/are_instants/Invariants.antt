use Rattle.std.proofs.Common.{ℕ, ◌<◌, ◌^◌, ◌<ℤ◌, ◌-ℤ◌, pos}
use Rattle.std.specs.Prelude.{slice_index_or}
use Rattle.order_core.proofs.statements.are_instants.Given as goal

abbrev pub invariant-loop-k : goal.invariant-loop-k
invariant-loop-k l =
    (m : ℕ) → m < l.k →
    ((pos 0 -ℤ pos (2 ^ 100)) <ℤ slice_index_or l.dates m (pos 0)) × (slice_index_or l.dates m (pos 0) <ℤ pos (2 ^ 100))
