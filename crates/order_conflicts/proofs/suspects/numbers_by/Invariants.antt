use Rattle.std.proofs.Common.{◌≡◌}
use Rattle.std.specs.List.{filter, range_with_len}
use Rattle.order_laws.specs.Chains.{order_at}
use Rattle.order_conflicts.specs.Suspects.{is_made_by}
use Rattle.order_conflicts.proofs.suspects.numbers_by.Given as goal

abbrev pub invariant-loop-n : goal.invariant-loop-n
invariant-loop-n l = l.numbers.items ≡ filter (λ n. is_made_by l.triple (order_at l.orders n)) (range_with_len 0 l.n)
