use Rattle.std.proofs.Common.{arith}
use Rattle.crm_outside.proofs.Pieces.{taken_to}
use Rattle.crm_outside.proofs.taking.read_all.Goals as goal

pub returns-clause-left : goal.returns-clause-left
returns-clause-left g c = λ _. taken_to _ _ _ _ c.take.taken.items 67108865 c.in-Ok.ensures.opened c.take.invariant.taken (omega (arith, c.take.invariant.within))
