use Rattle.std.proofs.Common.{◌≡◌}
use Rattle.std.specs.List.{filter, range_with_len}
use Rattle.order_laws.specs.Chains.{order_at}
use Rattle.order_conflicts.specs.Tangles.{is_tied_in}
use Rattle.order_conflicts.proofs.tangles.tied_numbers.Given as goal

abbrev pub invariant-loop-n : goal.invariant-loop-n
invariant-loop-n l = l.tied.items ≡ filter (λ n. is_tied_in l.analysis.set.list l.x (order_at l.orders n)) (range_with_len 0 l.n)
