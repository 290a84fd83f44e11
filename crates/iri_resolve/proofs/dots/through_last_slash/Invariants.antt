use Rattle.std.proofs.Common.{◌≡◌, ◌≤◌, ◌+◌, length, take}
use Rattle.std.specs.List.{suffix_len}
use Rattle.iri_resolve.specs.Dots.{no_slash}
use Rattle.iri_resolve.proofs.dots.through_last_slash.Given as goal

abbrev pub invariant-loop-n : goal.invariant-loop-n
invariant-loop-n l = (l.n ≤ length l.text) × (suffix_len no_slash l.text + l.n ≡ suffix_len no_slash (take l.n l.text) + length l.text)

abbrev pub decreases-loop-n : goal.decreases-loop-n
decreases-loop-n l = l.n
