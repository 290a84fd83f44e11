use Rattle.std.proofs.Common.{◌≡◌}
use Rattle.indexmap.specs.IndexMap.{get}
use Rattle.rdf_terms.specs.contracts.terms.TermPartialEq.TheImpl.{ghosts}
use Rattle.boundary_orders.specs.Extents.{rows_by, ends_in}
use Rattle.boundary_orders.proofs.extents.number_extents.Given as goal

abbrev pub invariant-loop-triple : goal.invariant-loop-triple
invariant-loop-triple l = l.table.entries ≡ rows_by (get ghosts.eq l.marks) (ends_in l.yielded)
