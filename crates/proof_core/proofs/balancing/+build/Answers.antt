use Rattle.std.proofs.Common.{arith, sym}
use Rattle.proof_core.proofs.Halves.{joins_balanced}
use Rattle.proof_core.proofs.balancing.+build.Goals as goal

pub returns-clause-balanced : goal.returns-clause-balanced
returns-clause-balanced g t c =
    joins_balanced c.args.rule c.args.leaves.now.items c.args.count c.in_ok-new.field-0.value c.in_ok-new-2.field-0.value
    (omega (arith, c.requires.some, c.if-count-eq1.false)) c.requires.within
    (rw (c.in_ok-new-2.ensures.ok) c.in_ok-second.ensures.balanced)
    (rw (c.in_ok-new.ensures.ok, sym c.in_ok-second.ensures.taken) c.in_ok-first.ensures.balanced)
