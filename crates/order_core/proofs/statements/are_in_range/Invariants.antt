use Rattle.std.proofs.Common.{ℕ, ◌<◌}
use Rattle.order_laws.specs.Chains.{order_at}
use Rattle.order_laws.specs.Tables.{IsPoint}
use Rattle.order_core.proofs.statements.are_in_range.Given as goal

abbrev pub invariant-loop-n : goal.invariant-loop-n
invariant-loop-n l =
    (m : ℕ) → m < l.n →
    IsPoint l.extents l.dates (order_at l.list m).low × IsPoint l.extents l.dates (order_at l.list m).high
