use Rattle.std.proofs.Common.{sym}
use Rattle.proof_core.proofs.Truth.{concluded_is_true}
use Rattle.proof_core.proofs.checking.check.Goals as goal

pub returns-in-Some-clause-is_true : goal.returns-in-Some-clause-is_true
returns-in-Some-clause-is_true g c =
    concluded_is_true (g.T.Theory.rules c.args.theory.now) (g.T.Theory.IsTrueIn c.args.theory.now)
    (g.met.T.Theory.keeps_truth c.args.theory.now) c.args.proof.now c.in-Some.fact (sym c.in-Some.ensures.concludes)
