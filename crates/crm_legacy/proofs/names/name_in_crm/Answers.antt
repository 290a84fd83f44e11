use Rattle.std.proofs.Common.{◌≡◌, List, ℕ, Some, None, subst}
use Rattle.crm_properties.specs.Names.{behind}
use Rattle.crm_legacy.proofs.Prefixes.{none_behind, some_behind}
use Rattle.crm_legacy.proofs.names.name_in_crm.Goals as goal

pub returns-in-Some : goal.returns-in-Some
returns-in-Some c =
    let cut = c.in-Some.ensures.cases in
    subst (λ (p : List ℕ). Some c.in-Some.name.now ≡ behind p c.args.iri.now) c.crm_namespace.ensures
    (some_behind c.crm_namespace.result.now c.args.iri.now cut.0 c.in-Some.name.now cut.1.0 (cut.1.1) cut.2)

pub returns-in-None : goal.returns-in-None
returns-in-None c =
    subst (λ (p : List ℕ). None ≡ behind p c.args.iri.now) c.crm_namespace.ensures
    (none_behind c.crm_namespace.result.now c.args.iri.now c.in-None.ensures.cases)
