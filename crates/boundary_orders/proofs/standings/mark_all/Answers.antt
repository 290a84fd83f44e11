use Rattle.indexmap.specs.IndexMap.{get}
use Rattle.rdf_terms.specs.contracts.terms.TermPartialEq.TheImpl.{ghosts}
use Rattle.std.proofs.Common.{false}
use Rattle.rdf_terms.specs.declared.terms.Term.TheVariants.{Iri}
use Rattle.boundary_orders.proofs.Standing.{kinds_grow}
use Rattle.boundary_orders.proofs.standings.mark_all.Goals as goal

pub loop-node-preserved : goal.loop-node-preserved
loop-node-preserved c =
    kinds_grow (get ghosts.eq c.loop-node.marks) (get ghosts.eq c.mark.new.marks) c.as_slice-node-items.result.now c.args.standings.now c.as_slice-node-items.ensures
    c.loop-node.node-index (Iri 0, false) c.loop-node-test.true c.loop-node.invariant c.in_ok-mark.ensures
