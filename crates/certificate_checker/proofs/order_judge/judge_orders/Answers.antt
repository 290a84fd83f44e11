use Rattle.std.proofs.Common.{arith, ◌≡◌, ◌≤◌, ◌∙◌, [], ◌∷◌, ◌++◌, Some, refl, length, drop}
use Rattle.std.specs.Prelude.{ℕ, Option, None, cond}
use Rattle.std.proofs.lemmas.Result.{err_from_is_err_and}
use Rattle.certificate_trees.specs.declared.refusals.CertRefusal.TheVariants.{K1, K6}
use Rattle.certificate_trees.specs.Beginnings.{IsWhole, IsRefused}
use Rattle.certificate_reader.specs.LineGrammar.{OrderLineForm}
use Rattle.certificate_reader.specs.OrderTexts.{order_line_text}
use Rattle.certificate_trees.proofs.Pieces.{none_read}
use Rattle.certificate_checker.specs.declared.verdicts.Verdict.{Verdict}
use Rattle.certificate_checker.specs.Verified.{IsOrdersShown}
use Rattle.certificate_checker.proofs.Bodies.{line_read, begun, orders_shown, if_ok}
use Rattle.certificate_checker.specs.Texts.{Body, ClaimLine, IsRefusedAs, IsAccepted}
use Rattle.certificate_checker.proofs.Stops.{passed_none, passed_refused, passed_accepted, line_refused, last_refused, last_accepted, line_judged, line_passed, if_ended, if_more}
use Rattle.certificate_checker.proofs.LineKinds.{order_lines, order_line_other, any_kept}
use Rattle.certificate_checker.proofs.order_judge.judge_orders.Goals as goal

pub lines-init : goal.lines-init
lines-init c = record {
  within = c.requires.within;
  kept = omega (arith, c.new-judge.ensures.kept.0);
  count = rw (c.new-judge.ensures.kept.1, c.new-judge.ensures.kept.0) refl;
  placings = omega (arith, c.new-judge.ensures.placings.1);
  settled = c.new-judge.ensures.next.0;
  same = c.new-judge.ensures.same;
  judged = (
    [],
    (
      none_read c.args.text.now c.args.from c.requires.within,
      begun c.args.orders.now c.args.periods.now c.new-judge.result.shared.kept c.new-judge.result.placings.items c.new-judge.result.next c.new-judge.result.cycled
          c.new-judge.ensures.kept.1 c.new-judge.ensures.placings.0 c.new-judge.ensures.next.1 c.new-judge.ensures.cycled,
    ),
  );
  passed = passed_none (ClaimLine (cond c.args.shares (Some 0) None)) 64 c.args.text.now c.args.from c.requires.within;
}

pub returns-in-End-clause-shown : goal.returns-in-End-clause-shown
returns-in-End-clause-shown c =
    let s = c.lines.invariant.judged in
    if_ok c.ended.result (λ (v : Verdict). (v ≡ c.verdict.result) × (length c.args.text.now ≤ c.in_ok-line.line.to))
    (λ (v : Verdict). IsOrdersShown c.args.orders.now c.args.periods.now (drop c.args.from c.args.text.now) v) c.ended.ensures.all
    (λ v h. orders_shown c.args.orders.now c.args.periods.now c.args.text.now c.args.from c.lines.at c.in_ok-line.line.to
    c.lines.judge.shared.kept c.lines.judge.placings.items c.lines.judge.next c.lines.judge.cycled s.0 v s.1.0 s.1.1
    (rw c.in-End.is at c.in_ok-line.ensures.read) (rw c.in-End.is at (c.is_due.ensures.end (cc))) (h.0 ∙ c.verdict.ensures) h.1)

pub lines-preserved : goal.lines-preserved
lines-preserved c =
    let s = c.lines.invariant.judged in
    record {
      within = c.in_ok-line.ensures.moves.1;
      kept = omega (arith, c.in_ok-take.ensures.kept, c.lines.invariant.kept, c.in_ok-line.ensures.moves.0);
      count = c.in_ok-take.ensures.count;
      placings = omega (arith, c.in_ok-take.ensures.placings, c.lines.invariant.placings, c.in_ok-line.ensures.moves.0);
      settled = c.in_ok-take.ensures.settled;
      same = c.in_ok-take.ensures.same;
      judged = (
        s.0 ++ c.in_ok-line.line.value ∷ [],
        (
          line_read order_line_text c.args.text.now c.args.from c.lines.at c.in_ok-line.line.to s.0 c.in_ok-line.line.value s.1.0
              c.in_ok-line.ensures.read,
          c.in_ok-take.ensures.judged s.0 s.1.1,
        ),
      );
      passed = line_passed (ClaimLine (cond c.args.shares (Some 0) None)) (OrderLineForm (cond c.args.shares (Some 0) None)) (order_lines (cond c.args.shares (Some 0) None))
          64 c.args.text.now c.args.from c.lines.at c.lines.invariant.passed c.in_ok-line.line.to (order_line_text c.in_ok-line.line.value ++ 10 ∷ [])
          (any_kept (λ M. IsWhole M c.args.text.now c.lines.at c.in_ok-line.line.to) c.args.shares c.lines.judge.kept c.known-known.result.leaves.kept c.known-known.ensures c.in_ok-line.ensures.line.stands.whole)
          c.in_ok-line.ensures.line.stands.shallow c.in_ok-line.ensures.read
          (order_line_other c.in_ok-line.line.value c.in_default.not-End);
    }

pub returns-in_err-line-clause-refused : goal.returns-in_err-line-clause-refused
returns-in_err-line-clause-refused c =
    let kept : Option ℕ = cond c.args.shares (Some 0) None in
    let p = err_from_is_err_and c.from_residual.result c.from_residual.ensures.1 in
    rw (p.1, p.2) (passed_refused (ClaimLine kept) (OrderLineForm kept) (order_lines kept) 64 c.args.text.now c.args.from c.lines.at c.lines.invariant.passed c.in_err-line.field-0.0
    (line_refused (ClaimLine kept) (OrderLineForm kept) (order_lines kept) 64 c.args.text.now c.lines.at c.in_err-line.field-0.0
    (any_kept (λ M. IsRefused M (Some 64) c.args.text.now c.lines.at c.in_err-line.field-0.0) c.args.shares c.lines.judge.kept c.known-known.result.leaves.kept c.known-known.ensures
    c.in_err-line.ensures.refused.refused) c.in_err-line.ensures.refused.shallow))

pub returns-then-not-is_due-clause-refused : goal.returns-then-not-is_due-clause-refused
returns-then-not-is_due-clause-refused c =
    let kept : Option ℕ = cond c.args.shares (Some 0) None in
    line_judged (ClaimLine kept) (OrderLineForm kept) (order_lines kept) 64 c.args.text.now c.args.from c.lines.at c.lines.invariant.passed c.in_ok-line.line.to
    (any_kept (λ M. IsWhole M c.args.text.now c.lines.at c.in_ok-line.line.to) c.args.shares c.lines.judge.kept c.known-known.result.leaves.kept c.known-known.ensures
    c.in_ok-line.ensures.line.stands.whole) (omega (arith, c.in_ok-line.ensures.moves.0)) c.in_ok-line.ensures.line.stands.shallow (K6 c.lines.at) refl

pub returns-in_err-check_names-clause-refused : goal.returns-in_err-check_names-clause-refused
returns-in_err-check_names-clause-refused c =
    let kept : Option ℕ = cond c.args.shares (Some 0) None in
    let p = err_from_is_err_and c.from_residual-in_err-check_names.result c.from_residual-in_err-check_names.ensures.1 in
    rw (p.1, p.2) (line_judged (ClaimLine kept) (OrderLineForm kept) (order_lines kept) 64 c.args.text.now c.args.from c.lines.at c.lines.invariant.passed c.in_ok-line.line.to
    (any_kept (λ M. IsWhole M c.args.text.now c.lines.at c.in_ok-line.line.to) c.args.shares c.lines.judge.kept c.known-known.result.leaves.kept c.known-known.ensures
    c.in_ok-line.ensures.line.stands.whole) (omega (arith, c.in_ok-line.ensures.moves.0)) c.in_ok-line.ensures.line.stands.shallow c.in_err-check_names.field-0.0
    (c.in_err-check_names.ensures.refused c.lines.at))

pub returns-in_err-take-clause-refused : goal.returns-in_err-take-clause-refused
returns-in_err-take-clause-refused c =
    let kept : Option ℕ = cond c.args.shares (Some 0) None in
    let p = err_from_is_err_and c.from_residual-in_err-take.result c.from_residual-in_err-take.ensures.1 in
    rw (p.1, p.2) (line_judged (ClaimLine kept) (OrderLineForm kept) (order_lines kept) 64 c.args.text.now c.args.from c.lines.at c.lines.invariant.passed c.in_ok-line.line.to
    (any_kept (λ M. IsWhole M c.args.text.now c.lines.at c.in_ok-line.line.to) c.args.shares c.lines.judge.kept c.known-known.result.leaves.kept c.known-known.ensures
    c.in_ok-line.ensures.line.stands.whole) (omega (arith, c.in_ok-line.ensures.moves.0)) c.in_ok-line.ensures.line.stands.shallow c.in_err-take.field-0.0 c.in_err-take.ensures.refused)

pub returns-in-End-clause-accepted : goal.returns-in-End-clause-accepted
returns-in-End-clause-accepted c =
    let kept : Option ℕ = cond c.args.shares (Some 0) None in
    let last = rw c.in-End.is at c.in_ok-line.ensures.read in
    if_ended (IsAccepted (Body (ClaimLine kept)) 64 c.args.text.now c.args.from) (length c.args.text.now) c.in_ok-line.line.to c.verdict.result c.ended.result c.ended.ensures.all
    (λ all. passed_accepted (ClaimLine kept) (OrderLineForm kept) (order_lines kept) 64 c.args.text.now c.args.from c.lines.at c.lines.invariant.passed
    (last_accepted (ClaimLine kept) (OrderLineForm kept) (order_lines kept) 64 c.args.text.now c.lines.at c.in_ok-line.line.to last all c.in_ok-line.ensures.line.stands.shallow))

pub returns-in-End-clause-refused : goal.returns-in-End-clause-refused
returns-in-End-clause-refused c =
    let kept : Option ℕ = cond c.args.shares (Some 0) None in
    let last = rw c.in-End.is at c.in_ok-line.ensures.read in
    if_more (IsRefusedAs (Body (ClaimLine kept)) 64 c.args.text.now c.args.from) (length c.args.text.now) c.in_ok-line.line.to c.ended.result c.ended.ensures.refused
    (λ more. passed_refused (ClaimLine kept) (OrderLineForm kept) (order_lines kept) 64 c.args.text.now c.args.from c.lines.at c.lines.invariant.passed (K1 c.in_ok-line.line.to)
    (last_refused (ClaimLine kept) (OrderLineForm kept) (order_lines kept) 64 c.args.text.now c.lines.at c.in_ok-line.line.to last more c.in_ok-line.ensures.line.stands.shallow))
