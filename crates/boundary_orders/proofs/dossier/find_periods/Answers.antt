use Rattle.std.proofs.Common.{◌<◌, ◌++◌, ℕ, List, length, false, arith, ap, ◌∙◌, slice_get}
use Rattle.rdf_terms.specs.declared.terms.Term.TheVariants.{Iri}
use Rattle.boundary_orders.specs.Dossiers.{number_where}
use Rattle.boundary_orders.proofs.Finding.{periods_grow}
use Rattle.boundary_orders.proofs.dossier.find_periods.Goals as goal

pub loop-k-preserved : goal.loop-k-preserved
loop-k-preserved c =
    let within : c.loop-k.k < length c.args.extents.now.entries = omega (arith, c.loop-k-test.true, c.len-k-end.ensures.len) in
    c.in_ok-push_period.ensures
    ∙ ap (λ (ns : List ℕ). ns ++ number_where c.loop-k.k (slice_get c.args.extents.now.entries c.loop-k.k)) c.loop-k.invariant
    ∙ periods_grow c.args.extents.now.entries c.loop-k.k (Iri 0, false) within
