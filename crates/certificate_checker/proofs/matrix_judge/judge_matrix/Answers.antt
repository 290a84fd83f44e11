use Rattle.std.proofs.Common.{arith, ◌≡◌, ◌≤◌, [], ◌∷◌, ◌++◌, refl, length, drop}
use Rattle.std.proofs.lemmas.Result.{err_from_is_err_and}
use Rattle.certificate_trees.specs.declared.refusals.CertRefusal.TheVariants.{K1, K6}
use Rattle.certificate_reader.specs.LineGrammar.{MatrixLineForm}
use Rattle.certificate_reader.specs.MatrixTexts.{matrix_line_text}
use Rattle.certificate_checker.specs.declared.verdicts.Verdict.{Verdict}
use Rattle.certificate_checker.specs.declared.verdicts.Verdict.TheVariants.{Matrix}
use Rattle.certificate_checker.specs.Verified.{IsMatrixShown}
use Rattle.certificate_trees.proofs.Pieces.{none_read}
use Rattle.certificate_checker.proofs.Bodies.{line_read, body_read, if_ok}
use Rattle.certificate_checker.proofs.MatrixSteps.{no_covers, matrix_push}
use Rattle.certificate_checker.specs.Texts.{Body, CellLine, IsRefusedAs, IsAccepted}
use Rattle.certificate_checker.proofs.Stops.{passed_none, passed_refused, passed_accepted, line_refused, last_refused, last_accepted, line_judged, line_passed, if_ended, if_more}
use Rattle.certificate_checker.proofs.LineKinds.{matrix_lines, matrix_line_other}
use Rattle.certificate_checker.proofs.matrix_judge.judge_matrix.Goals as goal

pub lines-init : goal.lines-init
lines-init c = record {
  covers = rw c.new-covers.ensures (no_covers c.args.orders.now);
  count = rw c.new-covers.ensures (omega arith);
  within = c.requires.within;
  shown = ([], (none_read c.args.text.now c.args.from c.requires.within, tt));
  passed = passed_none CellLine 64 c.args.text.now c.args.from c.requires.within;
}

pub returns-in-End-clause-shown : goal.returns-in-End-clause-shown
returns-in-End-clause-shown c =
    let s = c.lines.invariant.shown in
    if_ok c.ended.result (λ (v : Verdict). (v ≡ Matrix) × (length c.args.text.now ≤ c.in_ok-line.line.to))
    (λ (v : Verdict). (v ≡ Matrix) × IsMatrixShown c.args.orders.now (drop c.args.from c.args.text.now)) c.ended.ensures.all
    (λ v h. (
      h.0,
      (
        s.0,
        (
          body_read matrix_line_text c.args.text.now c.args.from c.lines.at c.in_ok-line.line.to s.0 s.1.0
              (rw c.in-End.is at c.in_ok-line.ensures.read) h.1,
          s.1.1,
        ),
      ),
    ))

pub lines-preserved : goal.lines-preserved
lines-preserved c =
    let s = c.lines.invariant.shown in
    record {
      covers = c.in_ok-take.ensures.covers;
      count = omega (arith, c.in_ok-take.ensures.count, c.lines.invariant.count, c.in_ok-line.ensures.moves.0);
      within = c.in_ok-line.ensures.moves.1;
      shown = (
        s.0 ++ c.in_ok-line.line.value ∷ [],
        (
          line_read matrix_line_text c.args.text.now c.args.from c.lines.at c.in_ok-line.line.to s.0 c.in_ok-line.line.value s.1.0
              c.in_ok-line.ensures.read,
          matrix_push c.args.orders.now s.0 c.in_ok-line.line.value s.1.1 c.in_ok-take.ensures.line,
        ),
      );
      passed = line_passed CellLine MatrixLineForm matrix_lines 64 c.args.text.now c.args.from c.lines.at c.lines.invariant.passed c.in_ok-line.line.to
          (matrix_line_text c.in_ok-line.line.value ++ 10 ∷ []) c.in_ok-line.ensures.line.stands.whole c.in_ok-line.ensures.line.stands.shallow c.in_ok-line.ensures.read
          (matrix_line_other c.in_ok-line.line.value c.in_default-value.not-End);
    }

pub returns-in_err-line-clause-refused : goal.returns-in_err-line-clause-refused
returns-in_err-line-clause-refused c =
    let p = err_from_is_err_and c.from_residual.result c.from_residual.ensures.1 in
    rw (p.1, p.2) (passed_refused CellLine MatrixLineForm matrix_lines 64 c.args.text.now c.args.from c.lines.at c.lines.invariant.passed c.in_err-line.field-0.0
    (line_refused CellLine MatrixLineForm matrix_lines 64 c.args.text.now c.lines.at c.in_err-line.field-0.0 c.in_err-line.ensures.refused.refused c.in_err-line.ensures.refused.shallow))

pub returns-then-matches-clause-refused : goal.returns-then-matches-clause-refused
returns-then-matches-clause-refused c =
    line_judged CellLine MatrixLineForm matrix_lines 64 c.args.text.now c.args.from c.lines.at c.lines.invariant.passed c.in_ok-line.line.to c.in_ok-line.ensures.line.stands.whole
    (omega (arith, c.in_ok-line.ensures.moves.0)) c.in_ok-line.ensures.line.stands.shallow (K6 c.lines.at) refl

pub returns-in_err-check_names-clause-refused : goal.returns-in_err-check_names-clause-refused
returns-in_err-check_names-clause-refused c =
    let p = err_from_is_err_and c.from_residual-in_err-check_names.result c.from_residual-in_err-check_names.ensures.1 in
    rw (p.1, p.2) (line_judged CellLine MatrixLineForm matrix_lines 64 c.args.text.now c.args.from c.lines.at c.lines.invariant.passed c.in_ok-line.line.to c.in_ok-line.ensures.line.stands.whole
    (omega (arith, c.in_ok-line.ensures.moves.0)) c.in_ok-line.ensures.line.stands.shallow c.in_err-check_names.field-0.0 (c.in_err-check_names.ensures.refused c.lines.at))

pub returns-in_err-take-clause-refused : goal.returns-in_err-take-clause-refused
returns-in_err-take-clause-refused c =
    let p = err_from_is_err_and c.from_residual-in_err-take.result c.from_residual-in_err-take.ensures.1 in
    rw (p.1, p.2) (line_judged CellLine MatrixLineForm matrix_lines 64 c.args.text.now c.args.from c.lines.at c.lines.invariant.passed c.in_ok-line.line.to c.in_ok-line.ensures.line.stands.whole
    (omega (arith, c.in_ok-line.ensures.moves.0)) c.in_ok-line.ensures.line.stands.shallow c.in_err-take.field-0.0 (c.in_err-take.ensures.refused c.lines.at))

pub returns-in-End-clause-accepted : goal.returns-in-End-clause-accepted
returns-in-End-clause-accepted c =
    let last = rw c.in-End.is at c.in_ok-line.ensures.read in
    if_ended (IsAccepted (Body CellLine) 64 c.args.text.now c.args.from) (length c.args.text.now) c.in_ok-line.line.to Matrix c.ended.result c.ended.ensures.all
    (λ all. passed_accepted CellLine MatrixLineForm matrix_lines 64 c.args.text.now c.args.from c.lines.at c.lines.invariant.passed
    (last_accepted CellLine MatrixLineForm matrix_lines 64 c.args.text.now c.lines.at c.in_ok-line.line.to last all c.in_ok-line.ensures.line.stands.shallow))

pub returns-in-End-clause-refused : goal.returns-in-End-clause-refused
returns-in-End-clause-refused c =
    let last = rw c.in-End.is at c.in_ok-line.ensures.read in
    if_more (IsRefusedAs (Body CellLine) 64 c.args.text.now c.args.from) (length c.args.text.now) c.in_ok-line.line.to c.ended.result c.ended.ensures.refused
    (λ more. passed_refused CellLine MatrixLineForm matrix_lines 64 c.args.text.now c.args.from c.lines.at c.lines.invariant.passed (K1 c.in_ok-line.line.to)
    (last_refused CellLine MatrixLineForm matrix_lines 64 c.args.text.now c.lines.at c.in_ok-line.line.to last more c.in_ok-line.ensures.line.stands.shallow))
