use Rattle.std.proofs.Common.{rules, codes, refl}
use Rattle.std.proofs.lemmas.Result.{IfOk-weaker, IfErr-weaker}
use Rattle.certificate_trees.proofs.WordReads.{handed_on}
use Rattle.certificate_trees.proofs.PartReads.{plain_read, word_read, word_refused}
use Rattle.certificate_reader.proofs.LineChoices.{chosen_read, line_refused}
use Rattle.certificate_reader.proofs.OrderChoices.{as_cycle, as_end, as_let, as_pair, as_place, place_refused}
use Rattle.certificate_reader.proofs.order_lines.read_order_form.Goals as goal
use Rattle.certificate_reader.proofs.order_lines.read_order_form.Goals.{else-is_some-via-then-is_some+else-stands_at-4, else-is_some-via-else-is_some}

pub returns-in_ok-placing-clause-read : goal.returns-in_ok-placing-clause-read
returns-in_ok-placing-clause-read c = chosen_read 64 (as_place c.args.known.now.leaves.kept c.args.text.now c.args.at (search rules) (search rules)) (plain_read 64 c.args.notes.now c.in_ok-placing.ensures.read c.in_ok-placing.ensures.stands)

pub returns-in_err-placing-clause-refused : goal.returns-in_err-placing-clause-refused
returns-in_err-placing-clause-refused c = handed_on c.from_residual.result _ _ c.from_residual.ensures.1
    (place_refused c.args.known.now.leaves.kept c.args.text.now c.args.at (search rules) (search rules) 64 _ c.in_err-placing.ensures.refused)

pub returns-else-stands_at-2-clause-read : goal.returns-else-stands_at-2-clause-read
returns-else-stands_at-2-clause-read c = IfOk-weaker c.read_pair.result _ _ (λ f p. chosen_read 64 (as_pair c.args.known.now.leaves.kept c.args.text.now c.args.at (search rules) (search rules)) p) c.read_pair.ensures.read

pub returns-else-stands_at-2-clause-refused : goal.returns-else-stands_at-2-clause-refused
returns-else-stands_at-2-clause-refused c = IfErr-weaker c.read_pair.result _ _ (λ e r. line_refused 64 (as_pair c.args.known.now.leaves.kept c.args.text.now c.args.at (search rules) (search rules)) r) c.read_pair.ensures.refused

pub returns-in_ok-tree-clause-read : goal.returns-in_ok-tree-clause-read
returns-in_ok-tree-clause-read c = chosen_read 64 (as_cycle c.args.known.now.leaves.kept c.args.text.now c.args.at (search rules)) c.in_ok-tree.ensures.read

pub returns-in_err-tree-clause-refused : goal.returns-in_err-tree-clause-refused
returns-in_err-tree-clause-refused c = handed_on c.from_residual-in_err-tree.result _ _ c.from_residual-in_err-tree.ensures.1
    (line_refused 64 (as_cycle c.args.known.now.leaves.kept c.args.text.now c.args.at (search rules)) c.in_err-tree.ensures.refused)

pub returns-in_ok-tree-2-clause-read : goal.returns-in_ok-tree-2-clause-read
returns-in_ok-tree-2-clause-read c = chosen_read 64 (as_let c.args.known.now.leaves.kept c.args.text.now c.args.at (search rules) (search rules)) c.in_ok-tree-2.ensures.read

pub returns-in_err-tree-2-clause-refused : goal.returns-in_err-tree-2-clause-refused
returns-in_err-tree-2-clause-refused c = handed_on c.from_residual-in_err-tree-2.result _ _ c.from_residual-in_err-tree-2.ensures.1
    (line_refused 64 (as_let c.args.known.now.leaves.kept c.args.text.now c.args.at (search rules) (search rules)) c.in_err-tree-2.ensures.refused)

pub returns-in_ok-to-clause-read : goal.returns-in_ok-to-clause-read
returns-in_ok-to-clause-read c = elim c.else-is_some.branch [
  | else-is_some-via-then-is_some+else-stands_at-4 w ↦ chosen_read 64 (as_end c.args.known.now.leaves.kept c.args.text.now c.args.at (search rules) (search rules) (λ some e. absurd (cc (w.stands_at-then-is_some.ensures.stands.1 e, w.if-stands_at-4.false)))) (word_read (codes "end") refl 64 c.args.notes.now c.in_ok-to.ensures.read c.in_ok-to.ensures.whole)
  | else-is_some-via-else-is_some w ↦ chosen_read 64 (as_end c.args.known.now.leaves.kept c.args.text.now c.args.at (search rules) (search rules) (λ some e. absurd (cc (c.is_some.ensures, some, w.if-is_some.false)))) (word_read (codes "end") refl 64 c.args.notes.now c.in_ok-to.ensures.read c.in_ok-to.ensures.whole)
]

pub returns-in_err-to-clause-refused : goal.returns-in_err-to-clause-refused
returns-in_err-to-clause-refused c = handed_on c.from_residual-in_err-to.result _ _ c.from_residual-in_err-to.ensures.1
    (elim c.else-is_some.branch [
      | else-is_some-via-then-is_some+else-stands_at-4 w ↦ line_refused 64 (as_end c.args.known.now.leaves.kept c.args.text.now c.args.at (search rules) (search rules) (λ some e. absurd (cc (w.stands_at-then-is_some.ensures.stands.1 e, w.if-stands_at-4.false)))) (word_refused (codes "end") refl 64 c.in_err-to.ensures.refused)
      | else-is_some-via-else-is_some w ↦ line_refused 64 (as_end c.args.known.now.leaves.kept c.args.text.now c.args.at (search rules) (search rules) (λ some e. absurd (cc (c.is_some.ensures, some, w.if-is_some.false)))) (word_refused (codes "end") refl 64 c.in_err-to.ensures.refused)
    ])
