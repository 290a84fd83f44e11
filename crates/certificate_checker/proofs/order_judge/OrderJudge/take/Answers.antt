use Rattle.std.proofs.Common.{refl, sym, subst}
use Rattle.std.specs.Prelude.{All}
use Rattle.std.proofs.lemmas.Result.{err_from_is_err_and}
use Rattle.order_core.specs.Sets.{Orders}
use Rattle.certificate_reader.specs.declared.order_lines.OrderLine.TheVariants.{Let, Cycle, End}
use Rattle.certificate_checker.specs.OrderClaims.{IsOfSet, IsTrueFact, IsClaimTrue, IsRefuted}
use Rattle.certificate_checker.proofs.OrderSteps.{judged_place, judged_let, judged_pair, judged_cycle}
use Rattle.certificate_checker.proofs.order_judge.OrderJudge.take.Goals as goal

pub returns-in-Place-clause-judged : goal.returns-in-Place-clause-judged
returns-in-Place-clause-judged c = λ lines j. (rw (c.in-Place.is, c.in_ok-push-in-Place.ensures.items)
    (judged_place c.args.orders.now c.args.periods.now c.args.self.now.shared.kept c.args.self.now.placings.items c.args.self.now.next c.args.self.now.cycled lines j
    c.in-Place.placing (c.satisfies.ensures.0 (cc))))

pub returns-in-Ok-clause-judged : goal.returns-in-Ok-clause-judged
returns-in-Ok-clause-judged c = λ lines j. (
    let F : Orders → Type 0 = λ o. All (IsTrueFact o) c.args.self.now.shared.kept in
    let G : Orders → Type 0 = λ o. All (IsTrueFact o) c.keep.new.self.kept in
    let more : G c.args.orders.now = subst G (rw c.in-Ok.ensures.theory c.requires.same) (c.in-Ok.ensures.truth (subst F (sym c.requires.same) j.facts)) in
    rw c.in-Let.is (judged_let c.args.orders.now c.args.periods.now c.args.self.now.shared.kept c.args.self.now.placings.items c.args.self.now.next c.args.self.now.cycled lines j
    c.keep.new.self.kept (Let c.in-Let.proof) refl refl (λ q d e. absurd (cc e)) more))

pub returns-in-Pair-clause-judged : goal.returns-in-Pair-clause-judged
returns-in-Pair-clause-judged c = λ lines j. (
    let next = rw c.in-Pair.is at c.requires.next in
    let F : Orders → Type 0 = λ o. All (IsTrueFact o) c.args.self.now.shared.kept in
    let R : Orders → Type 0 = λ o. IsClaimTrue o c.args.self.now.placings.items c.in-Pair.question c.in-Pair.claim in
    let so = subst R c.requires.same (c.in_ok-check_claim-in-Pair.ensures.claim (subst F (sym c.requires.same) j.facts) (subst IsOfSet (sym c.requires.same) c.conditions.ensures.orders)) in
    rw c.in-Pair.is (judged_pair c.args.orders.now c.args.periods.now c.args.self.now.shared.kept c.args.self.now.placings.items c.args.self.now.next c.args.self.now.cycled lines j
    c.in-Pair.question c.in-Pair.claim next.0 c.next-self.result next.1 (c.next-self.ensures.left c.in-Pair.question next.0 next.1) so))

pub returns-in-Cycle-clause-judged : goal.returns-in-Cycle-clause-judged
returns-in-Cycle-clause-judged c = λ lines j. (
    let F : Orders → Type 0 = λ o. All (IsTrueFact o) c.args.self.now.shared.kept in
    let so = subst IsRefuted c.requires.same (c.in_ok-check_cycle-in-Cycle.ensures.cycle (subst F (sym c.requires.same) j.facts) (subst IsOfSet (sym c.requires.same) c.conditions.ensures.orders)) in
    rw c.in-Cycle.is (judged_cycle c.args.orders.now c.args.periods.now c.args.self.now.shared.kept c.args.self.now.placings.items c.args.self.now.next c.args.self.now.cycled lines j
    (Cycle c.in-Cycle.proof) refl refl (λ q d e. absurd (cc e)) so))

pub returns-clause-judged : goal.returns-clause-judged
returns-clause-judged c = λ lines j. (
    rw c.in-End.is (judged_let c.args.orders.now c.args.periods.now c.args.self.now.shared.kept c.args.self.now.placings.items c.args.self.now.next c.args.self.now.cycled lines j
    c.args.self.now.shared.kept End refl refl (λ q d e. absurd (cc e)) j.facts))

pub returns-in-Err-Bad-clause-refused : goal.returns-in-Err-Bad-clause-refused
returns-in-Err-Bad-clause-refused c = c.bad_node.ensures c.args.at

pub returns-in_err-check_cycle-in-Cycle-clause-refused : goal.returns-in_err-check_cycle-in-Cycle-clause-refused
returns-in_err-check_cycle-in-Cycle-clause-refused c =
    let p = err_from_is_err_and c.from_residual-in_err-check_cycle-in-Cycle.result c.from_residual-in_err-check_cycle-in-Cycle.ensures.1 in
    rw (p.1, p.2) (c.in_err-check_cycle-in-Cycle.ensures.refused c.args.at)
