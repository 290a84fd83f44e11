use Rattle.std.proofs.Common.{◌≡◌, ℕ, nat_eq, take}
use Rattle.indexmap.specs.IndexSet.{contains}
use Rattle.boundary_orders.specs.Statements.{is_faulty}
use Rattle.boundary_orders.proofs.statements.faulty_numbers.Given as goal

abbrev pub invariant-loop-fault : goal.invariant-loop-fault
invariant-loop-fault l = (n : ℕ) → contains nat_eq l.numbers n ≡ is_faulty (take l.fault-index l.faults) n
