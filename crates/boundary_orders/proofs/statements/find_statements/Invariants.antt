use Rattle.std.proofs.Common.{◌≡◌, ℕ, List, nat_eq}
use Rattle.std.specs.List.{filter_map}
use Rattle.indexmap.specs.IndexSet.{contains}
use Rattle.crm_type_check.specs.declared.Fault.{Fault}
use Rattle.crm_type_check.specs.Index.{set_in, parts_at, IsIndex}
use Rattle.boundary_orders.specs.Statements.{is_faulty, statement_of}
use Rattle.boundary_orders.proofs.statements.find_statements.Given as goal

abbrev pub invariant-loop-number : goal.invariant-loop-number
invariant-loop-number l = (faults : List Fault) → IsIndex l.names l.pool.pairs (set_in l.index.classes) (parts_at l.index.relations) →
    ((n : ℕ) → contains nat_eq l.faulty n ≡ is_faulty faults n) → l.found ≡ filter_map (statement_of l.names l.pool.pairs faults) l.yielded
