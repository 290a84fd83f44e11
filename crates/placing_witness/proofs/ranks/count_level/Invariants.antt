use Rattle.std.proofs.Common.{◌≡◌, ◌≤◌, not}
use Rattle.std.specs.Prelude.{◌&&◌}
use Rattle.order_laws.specs.Tables.{is_known, is_strict}
use Rattle.placing_witness.specs.Bits.{count_to, entry_at}
use Rattle.placing_witness.proofs.ranks.count_level.Given as goal

abbrev pub invariant-loop-n : goal.invariant-loop-n
invariant-loop-n l = (l.count ≤ l.n) × (l.count ≡ count_to (λ n. is_known (entry_at l.row n) && not (is_strict (entry_at l.row n))) l.n)
