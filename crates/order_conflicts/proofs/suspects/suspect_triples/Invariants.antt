use Rattle.std.proofs.Common.{◌≡◌}
use Rattle.std.specs.List.{filter, range_with_len}
use Rattle.order_conflicts.specs.Suspects.{is_suspect}
use Rattle.order_conflicts.proofs.suspects.suspect_triples.Given as goal

abbrev pub invariant-loop-t : goal.invariant-loop-t
invariant-loop-t l = l.triples.items ≡ filter (is_suspect l.analysis.set) (range_with_len 0 l.t)
