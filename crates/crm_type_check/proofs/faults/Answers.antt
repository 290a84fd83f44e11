use Rattle.crm_type_check.specs.Index.{set_in, parts_at}
use Rattle.crm_type_check.proofs.Listing.{faults_grow}
use Rattle.crm_type_check.proofs.faults.Goals as goal

pub loop-number-preserved : goal.loop-number-preserved
loop-number-preserved c =
    faults_grow c.args.names.now c.args.pool.now.pairs c.loop-number.yielded c.in-Some.number c.in-Some.triple c.loop-number.found c.push_faults.new.faults
    c.own_faults-own.result c.is_partial-partial.result (set_in c.in_ok-index.index.classes) (parts_at c.in_ok-index.index.relations) c.in_ok-index.ensures
    c.own_faults-own.ensures c.is_partial-partial.ensures c.loop-number.invariant c.in_ok-push_faults.ensures
