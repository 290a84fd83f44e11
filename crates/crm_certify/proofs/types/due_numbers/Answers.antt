use Rattle.crm_type_check.specs.declared.FaultKind.TheVariants.{C1}
use Rattle.crm_certify.proofs.Typed.{due_grow}
use Rattle.crm_certify.proofs.types.due_numbers.Goals as goal

pub loop-fault-preserved : goal.loop-fault-preserved
loop-fault-preserved c =
    due_grow c.as_slice-fault-items.result.now c.args.faults.now c.loop-fault.fault-index (record { triple = 0; at = 0; kind = C1 }) c.loop-fault.due
    c.push_due.new.due c.as_slice-fault-items.ensures c.loop-fault-test.true c.loop-fault.invariant c.in_ok-push_due.ensures
