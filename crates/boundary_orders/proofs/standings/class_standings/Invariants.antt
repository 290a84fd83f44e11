use Rattle.std.proofs.Common.{◌≡◌, ◌++◌, ℕ, List, nat_eq}
use Rattle.std.specs.List.{flat_map}
use Rattle.indexmap.specs.IndexSet.{contains}
use Rattle.crm_type_check.specs.declared.Fault.{Fault}
use Rattle.boundary_orders.specs.Statements.{is_faulty}
use Rattle.boundary_orders.specs.Extents.{by_type}
use Rattle.boundary_orders.proofs.standings.class_standings.Given as goal

abbrev pub invariant-loop-number : goal.invariant-loop-number
invariant-loop-number l = (faults : List Fault) → ((n : ℕ) → contains nat_eq l.faulty n ≡ is_faulty faults n) →
    l.standings ≡ l.initial.standings ++ flat_map (by_type l.names faults) l.yielded
