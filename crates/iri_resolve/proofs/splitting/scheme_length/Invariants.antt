use Rattle.std.proofs.Common.{◌≡◌, ◌≤◌, ◌+◌, ◌-◌, length, drop}
use Rattle.std.specs.List.{prefix_len}
use Rattle.iri_resolve.specs.Splitting.{is_scheme_byte}
use Rattle.iri_resolve.proofs.splitting.scheme_length.Given as goal

abbrev pub invariant-loop-n : goal.invariant-loop-n
invariant-loop-n l = (l.n ≤ length l.text) × (prefix_len is_scheme_byte l.text ≡ l.n + prefix_len is_scheme_byte (drop l.n l.text))

abbrev pub decreases-loop-n : goal.decreases-loop-n
decreases-loop-n l = length l.text - l.n
