use Rattle.std.proofs.Common.{◌≡◌, ◌≤◌, ◌+◌, ◌-◌, length, drop}
use Rattle.std.specs.List.{prefix_len}
use Rattle.iri_resolve.specs.Dots.{no_slash, segment_length}
use Rattle.iri_resolve.proofs.dots.segment_length.Given as goal

abbrev pub invariant-loop-n : goal.invariant-loop-n
invariant-loop-n l = (1 ≤ l.n) × (l.n ≤ length l.input) × (segment_length l.input ≡ l.n + prefix_len no_slash (drop l.n l.input))

abbrev pub decreases-loop-n : goal.decreases-loop-n
decreases-loop-n l = length l.input - l.n
