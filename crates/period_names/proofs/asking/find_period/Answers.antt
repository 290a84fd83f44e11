use Rattle.std.proofs.Common.{◌<◌, Option, IfSome, length, sym, ap, subst, ◌∙◌}
use Rattle.rdf_terms.specs.declared.terms.Term.{Term}
use Rattle.period_names.specs.declared.asking.Period.{Period}
use Rattle.period_names.specs.Naming.{period_of}
use Rattle.period_names.proofs.Within.{period_within}
use Rattle.period_names.proofs.asking.find_period.Goals as goal

pub returns-clause-within : goal.returns-clause-within
returns-clause-within c =
    let found = c.period_of.ensures ∙ ap (λ (o : Option Term). period_of c.args.dossier.now.extents o) c.find_node.ensures in
    subst (λ (o : Option Period). IfSome o (λ x. x.number < length c.args.dossier.now.extents)) (sym found)
    (period_within c.args.names.now c.args.dossier.now.extents c.args.word.now)
