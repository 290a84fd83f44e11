use Rattle.std.proofs.Common.{◌≡◌, ◌≤◌, ◌<◌, ℕ, length, get_or}
use Rattle.order_closure.specs.Closures.{between}
use Rattle.placing_witness.specs.Prepared.{below_to}
use Rattle.placing_witness.proofs.ranks.count_below.Given as goal

abbrev pub invariant-loop-q : goal.invariant-loop-q
invariant-loop-q l =
    (length l.counts ≡ l.boundaries)
    × ((n : ℕ) → n < l.boundaries → get_or l.counts n 0 ≡ below_to (between l.closure) l.points l.floors n l.q)
    × ((n : ℕ) → n < l.boundaries → get_or l.counts n 0 ≤ l.q)
