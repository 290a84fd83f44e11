use Rattle.std.proofs.Common.{◌≡◌, ◌<◌, ◌≤◌, ℕ, get_or, bit_or, length}
use Rattle.harris_matrix.proofs.covering.strike.Given as goal

abbrev pub invariant-loop-k : goal.invariant-loop-k
invariant-loop-k l = record {
  size : length l.struck ≡ length l.initial.struck;
  joined : (m : ℕ) → m < l.k → get_or l.struck m 0 ≡ bit_or (get_or l.initial.struck m 0) (get_or l.row m 0);
  rest : (m : ℕ) → l.k ≤ m → get_or l.struck m 0 ≡ get_or l.initial.struck m 0;
}
