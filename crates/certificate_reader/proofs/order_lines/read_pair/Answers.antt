use Rattle.std.proofs.Common.{codes, refl}
use Rattle.certificate_trees.proofs.WordReads.{handed_on}
use Rattle.certificate_trees.proofs.PartReads.{both_read, first_part, second_part, word_read, word_refused, word_stands}
use Rattle.certificate_reader.proofs.OrderForms.{pair_question, question_claim, space_claim}
use Rattle.certificate_reader.proofs.order_lines.read_pair.Goals as goal

pub returns-clause-read : goal.returns-clause-read
returns-clause-read c = both_read (pair_question c.args.known.now.leaves.kept) 64 (word_read (codes "pair ") refl 64 c.args.notes.now c.in_ok-begun.ensures.read c.in_ok-begun.ensures.whole)
    (both_read (question_claim c.args.known.now.leaves.kept) 64 c.in_ok-question.ensures.read (both_read (space_claim c.args.known.now.leaves.kept) 64 (word_read (codes " ") refl 64 c.read_question.new.notes c.in_ok-behind.ensures.read c.in_ok-behind.ensures.whole) c.in_ok-claim.ensures.read))

pub returns-in_err-begun-clause-refused : goal.returns-in_err-begun-clause-refused
returns-in_err-begun-clause-refused c = handed_on c.from_residual.result _ _ c.from_residual.ensures.1
    (first_part (pair_question c.args.known.now.leaves.kept) 64 (word_refused (codes "pair ") refl 64 c.in_err-begun.ensures.refused))

pub returns-in_err-question-clause-refused : goal.returns-in_err-question-clause-refused
returns-in_err-question-clause-refused c = handed_on c.from_residual-in_err-question.result _ _ c.from_residual-in_err-question.ensures.1
    (second_part (pair_question c.args.known.now.leaves.kept) 64 (word_stands (codes "pair ") refl 64 c.in_ok-begun.ensures.whole) (first_part (question_claim c.args.known.now.leaves.kept) 64 (c.in_err-question.ensures.refused)))

pub returns-in_err-behind-clause-refused : goal.returns-in_err-behind-clause-refused
returns-in_err-behind-clause-refused c = handed_on c.from_residual-in_err-behind.result _ _ c.from_residual-in_err-behind.ensures.1
    (second_part (pair_question c.args.known.now.leaves.kept) 64 (word_stands (codes "pair ") refl 64 c.in_ok-begun.ensures.whole) (second_part (question_claim c.args.known.now.leaves.kept) 64 c.in_ok-question.ensures.read.stands (first_part (space_claim c.args.known.now.leaves.kept) 64 (word_refused (codes " ") refl 64 c.in_err-behind.ensures.refused))))

pub returns-in_err-claim-clause-refused : goal.returns-in_err-claim-clause-refused
returns-in_err-claim-clause-refused c = handed_on c.from_residual-in_err-claim.result _ _ c.from_residual-in_err-claim.ensures.1
    (second_part (pair_question c.args.known.now.leaves.kept) 64 (word_stands (codes "pair ") refl 64 c.in_ok-begun.ensures.whole) (second_part (question_claim c.args.known.now.leaves.kept) 64 c.in_ok-question.ensures.read.stands (second_part (space_claim c.args.known.now.leaves.kept) 64 (word_stands (codes " ") refl 64 c.in_ok-behind.ensures.whole) (c.in_err-claim.ensures.refused))))
