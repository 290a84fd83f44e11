use Rattle.std.proofs.Common.{arith, codes, refl}
use Rattle.certificate_trees.proofs.Pieces.{then_read}
use Rattle.certificate_trees.proofs.WordReads.{handed_on}
use Rattle.certificate_trees.proofs.PartReads.{both_read, first_part, second_part, word_read, word_refused}
use Rattle.certificate_reader.proofs.MatrixForms.{matrix_feed}
use Rattle.certificate_reader.proofs.MatrixReads.{line_nodes, line_read}
use Rattle.certificate_reader.proofs.matrix_lines.read_matrix_line.Goals as goal

pub returns-clause-line : goal.returns-clause-line
returns-clause-line c = both_read matrix_feed 64 c.in_ok-line.ensures.read (word_read (codes "\n") refl 64 c.read_matrix_form.new.notes c.in_ok-to.ensures.read c.in_ok-to.ensures.whole)

pub returns-in_err-line-clause-refused : goal.returns-in_err-line-clause-refused
returns-in_err-line-clause-refused c = handed_on c.from_residual.result _ _ c.from_residual.ensures.1
    (first_part matrix_feed 64 c.in_err-line.ensures.refused)

pub returns-in_err-to-clause-refused : goal.returns-in_err-to-clause-refused
returns-in_err-to-clause-refused c = handed_on c.from_residual-in_err-to.result _ _ c.from_residual-in_err-to.ensures.1
    (second_part matrix_feed 64 c.in_ok-line.ensures.read.stands (word_refused (codes "\n") refl 64 c.in_err-to.ensures.refused))

pub returns-clause-read : goal.returns-clause-read
returns-clause-read c = line_read c.args.known.now c.in_ok-line.line.value c.args.text.now c.args.at c.in_ok-to.to
    (then_read c.args.text.now c.args.at c.in_ok-line.line.to c.in_ok-to.to _ _ c.in_ok-line.ensures.read.read c.in_ok-to.ensures.read)

pub returns-clause-moves : goal.returns-clause-moves
returns-clause-moves c = (omega (arith, line_nodes c.args.known.now c.in_ok-line.line.value, c.in_ok-line.ensures.read.moves, c.in_ok-to.ensures.moves), c.in_ok-to.ensures.read.within)
