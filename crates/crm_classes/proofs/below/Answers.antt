use Rattle.crm_classes.proofs.Closed.{below_answered}
use Rattle.crm_classes.proofs.below.Goals as goal

pub returns-clause-chain : goal.returns-clause-chain
returns-clause-chain c =
    below_answered c.contains.result c.args.c c.args.d c.c.inside.number c.d.inside.number c.above_of.result.now
    c.contains.ensures.value c.above_of.ensures c.c.view_is c.d.view_is c.c.invariant c.d.invariant
