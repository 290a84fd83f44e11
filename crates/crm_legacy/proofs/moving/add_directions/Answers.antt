use Rattle.std.proofs.Common.{◌≡◌, List, ℕ, Ok, false, get_or, sym, subst, ◌∙◌, arith}
use Rattle.std.proofs.lemmas.Option.{slice_get-get_or}
use Rattle.std.proofs.lemmas.Result.{err_from_is_err_and}
use Rattle.order_core.specs.declared.primitives.Primitive.TheVariants.{P173}
use Rattle.crm_legacy.specs.declared.legacy.Direction.{Direction}
use Rattle.crm_legacy.specs.Causes.{IsCause}
use Rattle.crm_legacy.specs.Legacies.{direction_iri}
use Rattle.crm_legacy.specs.Modern.{with_predicate, with_statement}
use Rattle.crm_legacy.proofs.Following.{next_said, refused_said}
use Rattle.crm_legacy.proofs.moving.add_directions.Goals as goal

pub returns-in_err-add_statement-clause-err : goal.returns-in_err-add_statement-clause-err
returns-in_err-add_statement-clause-err c =
    let p = err_from_is_err_and c.from_residual-in_err-add_statement.result c.from_residual-in_err-add_statement.ensures.1 in
    let d : Direction = record { primitive = P173; inverse = false } in
    let k = c.loop-direction.direction-index in
    let text = c.as_str.ensures.value ∙ c.in_ok-iri.ensures in
    rw (p.1, p.2)
    (refused_said c.args.old.now (λ d. with_predicate c.args.triple (direction_iri c.args.turned d)) c.args.directions.now k (get_or c.args.directions.now k d)
    (sym (slice_get-get_or c.args.directions.now k d (omega arith))) c.args.modern.now c.loop-direction.modern c.loop-direction.invariant _
    (subst (λ (t : List ℕ). IsCause (with_statement c.args.old.now c.loop-direction.modern (with_predicate c.args.triple t)) c.in_err-add_statement.field-0.0) text c.in_err-add_statement.ensures.err))

pub loop-direction-preserved : goal.loop-direction-preserved
loop-direction-preserved c =
    let d : Direction = record { primitive = P173; inverse = false } in
    let k = c.loop-direction.direction-index in
    let text = c.as_str.ensures.value ∙ c.in_ok-iri.ensures in
    next_said c.args.old.now (λ d. with_predicate c.args.triple (direction_iri c.args.turned d)) c.args.directions.now k (get_or c.args.directions.now k d)
    (sym (slice_get-get_or c.args.directions.now k d (omega arith))) c.args.modern.now c.loop-direction.modern c.loop-direction.invariant c.add_statement.new.modern
    (subst (λ (t : List ℕ). with_statement c.args.old.now c.loop-direction.modern (with_predicate c.args.triple t) ≡ Ok c.add_statement.new.modern) text c.in_ok-add_statement.ensures.ok)
