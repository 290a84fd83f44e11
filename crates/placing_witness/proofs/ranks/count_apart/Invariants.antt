use Rattle.std.proofs.Common.{◌≡◌, ◌≤◌, not}
use Rattle.std.specs.Prelude.{◌&&◌, ◌==◌, slice_index_or}
use Rattle.order_laws.specs.Tables.{is_known}
use Rattle.placing_witness.specs.Bits.{count_to, entry_at}
use Rattle.placing_witness.proofs.ranks.count_apart.Given as goal

abbrev pub invariant-loop-n : goal.invariant-loop-n
invariant-loop-n l = (l.count ≤ l.n) × (l.count ≡ count_to (λ n. not (is_known (entry_at l.row n)) && (slice_index_or l.floors n 0 == l.floor)) l.n)
