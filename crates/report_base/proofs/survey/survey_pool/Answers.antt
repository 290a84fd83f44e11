use Rattle.std.proofs.Common.{◌≡◌, List, subst}
use Rattle.std.proofs.lemmas.Result.{err_from_is_err_and}
use Rattle.crm_type_check.specs.declared.Fault.{Fault}
use Rattle.boundary_orders.specs.Dossiers.{IsPassed, findings_of}
use Rattle.report_base.proofs.survey.survey_pool.Goals as goal

pub returns-in_err-dossier-clause-err : goal.returns-in_err-dossier-clause-err
returns-in_err-dossier-clause-err c =
    let p = err_from_is_err_and c.from_residual-in_err-dossier.result c.from_residual-in_err-dossier.ensures.1 in
    rw (p.1, p.2)
    (subst (λ (fs : List Fault). IsPassed (findings_of c.args.names.now c.args.pool.now.pairs fs) c.in_err-dossier.field-0.0) c.in_ok-faults.ensures c.in_err-dossier.ensures.err)

pub returns-clause-ok : goal.returns-clause-ok
returns-clause-ok c = record {
  faults = c.in_ok-faults.ensures;
  dossier = subst (λ (fs : List Fault). c.in_ok-dossier.dossier ≡ findings_of c.args.names.now c.args.pool.now.pairs fs) c.in_ok-faults.ensures c.in_ok-dossier.ensures.ok;
  few = c.in_ok-dossier.ensures.few;
}
