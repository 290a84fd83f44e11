use Rattle.std.proofs.Common.{◌≡◌, take}
use Rattle.crm_certify.specs.Types.{due_of}
use Rattle.crm_certify.proofs.types.due_numbers.Given as goal

abbrev pub invariant-loop-fault : goal.invariant-loop-fault
invariant-loop-fault l = l.due ≡ due_of (take l.fault-index l.faults)
