use Rattle.std.proofs.Common.{◌≡◌, ◌≤◌, ◌<◌, ◌+◌, ◌*◌, ℕ, cond, length, get_or}
use Rattle.std.specs.Prelude.{slice_range}
use Rattle.order_laws.specs.Tables.{is_strict}
use Rattle.placing_witness.specs.Bits.{entry_at, set_in_both}
use Rattle.placing_witness.proofs.bits.share.Given as goal

abbrev pub invariant-loop-n : goal.invariant-loop-n
invariant-loop-n l =
    (length l.counts ≡ length l.initial.counts)
    × ((k : ℕ) → k < l.n → get_or l.counts k 0 ≡ cond (is_strict (entry_at l.row k)) (set_in_both l.after (slice_range l.lower (k * l.words) ((k + 1) * l.words)) l.words) 0)
    × ((k : ℕ) → k < l.n → get_or l.counts k 0 ≤ 64 * l.words)
