use Rattle.std.proofs.Common.{◌≡◌, take}
use Rattle.indexmap.specs.IndexMap.{get}
use Rattle.rdf_terms.specs.declared.terms.Term.{Term}
use Rattle.rdf_terms.specs.contracts.terms.TermPartialEq.TheImpl.{ghosts}
use Rattle.boundary_orders.specs.Extents.{kind_of}
use Rattle.boundary_orders.proofs.standings.mark_all.Given as goal

abbrev pub invariant-loop-node : goal.invariant-loop-node
invariant-loop-node l = (t : Term) → get ghosts.eq l.marks t ≡ kind_of (take l.node-index l.standings) t
