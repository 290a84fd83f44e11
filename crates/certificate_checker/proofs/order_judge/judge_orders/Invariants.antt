use Rattle.std.proofs.Common.{◌≡◌, ◌-◌, ◌≤◌, length, List}
use Rattle.std.specs.Prelude.{vec_len, cond, Some, None}
use Rattle.certificate_trees.specs.Reads.{IsRead}
use Rattle.certificate_reader.specs.OrderTexts.{order_line_text}
use Rattle.certificate_reader.specs.declared.order_lines.OrderLine.{OrderLine}
use Rattle.certificate_checker.specs.Questions.{IsSettled}
use Rattle.certificate_checker.specs.OrderClaims.{IsJudged}
use Rattle.certificate_checker.specs.Verified.{lines_text}
use Rattle.certificate_checker.specs.Texts.{ClaimLine}
use Rattle.certificate_checker.proofs.Stops.{IsPassed}
use Rattle.certificate_checker.proofs.order_judge.judge_orders.Given as goal

abbrev pub invariant-lines : goal.invariant-lines
invariant-lines l = record {
  within : l.at ≤ length l.text;
  kept : l.judge.kept ≤ l.at;
  count : length l.judge.shared.kept ≡ l.judge.kept;
  placings : vec_len l.judge.placings ≤ l.at;
  settled : IsSettled l.periods l.judge.next;
  same : l.judge.shared.theory.orders.now ≡ l.orders;
  judged : (lines : List OrderLine) × (IsRead l.text l.fn.from l.at (lines_text order_line_text lines)
      × IsJudged l.orders l.periods l.judge.shared.kept l.judge.placings.items l.judge.next l.judge.cycled lines);
  passed : IsPassed (ClaimLine (cond l.fn.shares (Some 0) None)) 64 l.text l.fn.from l.at;
}

abbrev pub decreases-lines : goal.decreases-lines
decreases-lines l = length l.text - l.at
