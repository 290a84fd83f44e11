use Rattle.std.proofs.Common.{◌≡◌, ◌≤◌, ◌<◌, ℕ, cond, length, get_or}
use Rattle.order_closure.specs.Rows.{bit_of}
use Rattle.placing_witness.proofs.tallies.raise.Given as goal

abbrev pub invariant-loop-n : goal.invariant-loop-n
invariant-loop-n l =
    (length l.floors ≡ length l.initial.floors)
    × ((k : ℕ) → k < l.n → get_or l.floors k 0 ≡ cond (bit_of l.row 0 k) l.floor (get_or l.initial.floors k 0))
    × ((k : ℕ) → l.n ≤ k → get_or l.floors k 0 ≡ get_or l.initial.floors k 0)
