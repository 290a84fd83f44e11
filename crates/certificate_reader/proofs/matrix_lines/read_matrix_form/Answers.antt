use Rattle.std.proofs.Common.{rules, codes, refl}
use Rattle.std.proofs.lemmas.Result.{IfOk-weaker, IfErr-weaker}
use Rattle.certificate_trees.proofs.WordReads.{handed_on}
use Rattle.certificate_trees.proofs.PartReads.{word_read, word_refused}
use Rattle.certificate_reader.proofs.MatrixChoices.{as_cover, as_matrix_end, as_walk}
use Rattle.certificate_reader.proofs.LineChoices.{chosen_read, chosen_refused}
use Rattle.certificate_reader.proofs.matrix_lines.read_matrix_form.Goals as goal

pub returns-then-stands_at-clause-read : goal.returns-then-stands_at-clause-read
returns-then-stands_at-clause-read c = IfOk-weaker c.read_cover.result _ _ (λ f p. chosen_read 64 (as_cover c.args.text.now c.args.at (search rules)) p) c.read_cover.ensures.read

pub returns-then-stands_at-clause-refused : goal.returns-then-stands_at-clause-refused
returns-then-stands_at-clause-refused c = IfErr-weaker c.read_cover.result _ _ (λ e r. chosen_refused 64 (as_cover c.args.text.now c.args.at (search rules)) r) c.read_cover.ensures.refused

pub returns-then-stands_at-2-clause-read : goal.returns-then-stands_at-2-clause-read
returns-then-stands_at-2-clause-read c = IfOk-weaker c.read_walk.result _ _ (λ f p. chosen_read 64 (as_walk c.args.text.now c.args.at (search rules)) p) c.read_walk.ensures.read

pub returns-then-stands_at-2-clause-refused : goal.returns-then-stands_at-2-clause-refused
returns-then-stands_at-2-clause-refused c = IfErr-weaker c.read_walk.result _ _ (λ e r. chosen_refused 64 (as_walk c.args.text.now c.args.at (search rules)) r) c.read_walk.ensures.refused

pub returns-in_ok-to-clause-read : goal.returns-in_ok-to-clause-read
returns-in_ok-to-clause-read c = chosen_read 64 (as_matrix_end c.args.text.now c.args.at (search rules) (search rules)) (word_read (codes "end") refl 64 c.args.notes.now c.in_ok-to.ensures.read c.in_ok-to.ensures.whole)

pub returns-in_err-to-clause-refused : goal.returns-in_err-to-clause-refused
returns-in_err-to-clause-refused c = handed_on c.from_residual.result _ _ c.from_residual.ensures.1
    (chosen_refused 64 (as_matrix_end c.args.text.now c.args.at (search rules) (search rules)) (word_refused (codes "end") refl 64 c.in_err-to.ensures.refused))
