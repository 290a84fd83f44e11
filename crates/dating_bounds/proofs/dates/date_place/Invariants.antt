use Rattle.std.proofs.Common.{◌≡◌, ℕ, ◌<◌, get_or, pos, false}
use Rattle.std.specs.Prelude.{int_le}
use Rattle.dating_bounds.proofs.dates.date_place.Given as goal

abbrev pub invariant-loop-k : goal.invariant-loop-k
invariant-loop-k l = (j : ℕ) → j < l.k → int_le l.t (get_or l.dates j (pos 0)) ≡ false
