use Rattle.std.proofs.Common.{List, sym, subst}
use Rattle.std.proofs.lemmas.Result.{IfErr-weaker}
use Rattle.crm_legacy.specs.Causes.{IsCause}
use Rattle.crm_legacy.specs.Modern.{Statement, with_predicate, with_statement, with_statements, said}
use Rattle.crm_legacy.proofs.Following.{said_plainly, cause_alone}
use Rattle.crm_legacy.proofs.moving.add_said.Goals as goal

pub returns-in-None-clause-err : goal.returns-in-None-clause-err
returns-in-None-clause-err c =
    let old = c.args.old.now in
    let x = with_predicate c.args.triple c.predicate_iri-predicate.result.now in
    let e = said_plainly old c.args.triple c.predicate_iri-predicate.result.now c.predicate_iri-predicate.ensures c.in-None.ensures in
    IfErr-weaker c.add_statement.result (IsCause (with_statement old c.args.modern.now x)) (IsCause (with_statements old (said old c.args.triple) c.args.modern.now))
    (λ f h. subst (λ (xs : List Statement). IsCause (with_statements old xs c.args.modern.now) f) (sym e) (cause_alone old c.args.modern.now x f h))
    c.add_statement.ensures.err
