use Rattle.std.proofs.Common.{Bool, List, ap, ◌∙◌}
use Rattle.indexmap.specs.IndexMap.{get}
use Rattle.rdf_terms.specs.declared.terms.Term.{Term}
use Rattle.rdf_terms.specs.contracts.terms.TermPartialEq.TheImpl.{ghosts}
use Rattle.boundary_orders.specs.Numbering.{with_node}
use Rattle.boundary_orders.proofs.Numbering.{rows_grow}
use Rattle.boundary_orders.proofs.extents.number_extents.Goals as goal

pub loop-triple-preserved : goal.loop-triple-preserved
loop-triple-preserved c =
    c.in_ok-number_ends.ensures
    ∙ ap (λ (rs : List (Term × Bool)). with_node (get ghosts.eq c.args.marks.now) (with_node (get ghosts.eq c.args.marks.now) rs c.in-Some.triple.s) c.in-Some.triple.o) c.loop-triple.invariant
    ∙ rows_grow (get ghosts.eq c.args.marks.now) c.loop-triple.yielded c.in-Some.field-0-0 c.in-Some.triple
