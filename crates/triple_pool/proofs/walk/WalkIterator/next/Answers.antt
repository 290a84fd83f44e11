use Rattle.std.proofs.Common.{length, arith, ap}
use Rattle.triple_pool.specs.declared.Links.{Links}
use Rattle.triple_pool.proofs.Walking.{walked}
use Rattle.triple_pool.proofs.walk.WalkIterator.next.Goals as goal

pub returns-in-Some-clause-steps : goal.returns-in-Some-clause-steps
returns-in-Some-clause-steps c =
    walked c.self.inside.place c.self.inside.slots.now c.self.inside.term c.in-Some.number c.self.inside.at c.links_of.result.next c.args.self.now
    c.self.invariant c.in-Some.is c.self.view_is (ap (λ (l : Links). l.next) c.links_of.ensures)

pub returns-in-Some-clause-goes : goal.returns-in-Some-clause-goes
returns-in-Some-clause-goes c =
    let e = ap length (walked c.self.inside.place c.self.inside.slots.now c.self.inside.term c.in-Some.number c.self.inside.at c.links_of.result.next c.args.self.now
    c.self.invariant c.in-Some.is c.self.view_is (ap (λ (l : Links). l.next) c.links_of.ensures)) in
    record { on = λ f. (tt, tt, omega (arith, e)); keeps = tt; rests = λ f. tt }
