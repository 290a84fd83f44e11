use Rattle.std.proofs.Common.{◌-◌, ◌≤◌, length, List}
use Rattle.certificate_trees.specs.Reads.{IsRead}
use Rattle.certificate_reader.specs.MatrixTexts.{matrix_line_text}
use Rattle.certificate_reader.specs.declared.matrix_lines.MatrixLine.{MatrixLine}
use Rattle.certificate_checker.specs.MatrixClaims.{AreCovers, AreMatrixTrue}
use Rattle.certificate_checker.specs.Verified.{lines_text}
use Rattle.certificate_checker.specs.Texts.{CellLine}
use Rattle.certificate_checker.proofs.Stops.{IsPassed}
use Rattle.certificate_checker.proofs.matrix_judge.judge_matrix.Given as goal

abbrev pub invariant-lines : goal.invariant-lines
invariant-lines l = record {
  covers : AreCovers l.orders l.covers;
  count : length l.covers ≤ l.at;
  within : l.at ≤ length l.text;
  shown : (lines : List MatrixLine) × (IsRead l.text l.fn.from l.at (lines_text matrix_line_text lines) × AreMatrixTrue l.orders lines);
  passed : IsPassed CellLine 64 l.text l.fn.from l.at;
}

abbrev pub decreases-lines : goal.decreases-lines
decreases-lines l = length l.text - l.at
