use Rattle.std.proofs.lemmas.Result.{err_from_is_err_and}
use Rattle.crm_legacy.specs.Modern.{said, no_records}
use Rattle.crm_legacy.proofs.Following.{next_block, refused_block}
use Rattle.crm_legacy.proofs.moving.modern.Goals as goal

pub returns-in_err-add_said-clause-err : goal.returns-in_err-add_said-clause-err
returns-in_err-add_said-clause-err c =
    let p = err_from_is_err_and c.from_residual.result c.from_residual.ensures.1 in
    rw (p.1, p.2)
    (refused_block c.args.records.now.names (said c.args.records.now.names) c.args.records.now.triples c.loop-k.k c.in-Some.triple c.in-Some.ensures
    no_records c.loop-k.modern c.loop-k.invariant _ c.in_err-add_said.ensures.err)

pub loop-k-preserved : goal.loop-k-preserved
loop-k-preserved c =
    next_block c.args.records.now.names (said c.args.records.now.names) c.args.records.now.triples c.loop-k.k c.in-Some.triple c.in-Some.ensures
    no_records c.loop-k.modern c.loop-k.invariant c.add_said.new.modern c.in_ok-add_said.ensures.ok
