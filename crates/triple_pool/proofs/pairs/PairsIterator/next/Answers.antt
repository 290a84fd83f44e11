use Rattle.std.proofs.Common.{length, arith, ap, sym, ◌∙◌}
use Rattle.triple_pool.proofs.Pairing.{paired, paired_end}
use Rattle.triple_pool.proofs.pairs.PairsIterator.next.Goals as goal

pub returns-in-None-clause-steps : goal.returns-in-None-clause-steps
returns-in-None-clause-steps c =
    let e = paired_end c.self.inside.rest.now c.self.inside.at c.args.self.now (sym c.first_held.ensures ∙ c.in-None.is) c.self.view_is in
    (e, e)

pub returns-in-Some-clause-steps : goal.returns-in-Some-clause-steps
returns-in-Some-clause-steps c =
    paired c.self.inside.rest.now c.behind-self-inside.result.now c.self.inside.at c.in-Some.gap c.args.self.now (sym c.first_held.ensures ∙ c.in-Some.is) c.self.view_is c.behind-self-inside.ensures

pub returns-in-Some-clause-goes : goal.returns-in-Some-clause-goes
returns-in-Some-clause-goes c =
    let e = ap length (paired c.self.inside.rest.now c.behind-self-inside.result.now c.self.inside.at c.in-Some.gap c.args.self.now (sym c.first_held.ensures ∙ c.in-Some.is) c.self.view_is c.behind-self-inside.ensures) in
    record { on = λ f. (tt, tt, omega (arith, e)); keeps = tt; rests = λ f. tt }
