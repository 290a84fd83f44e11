use Rattle.std.proofs.Common.{rules}
use Rattle.std.proofs.lemmas.Result.{IfOk-weaker, IfErr-weaker}
use Rattle.certificate_trees.proofs.WordReads.{handed_on}
use Rattle.certificate_reader.proofs.OrderChoices.{as_at_or_before, as_before, as_lack}
use Rattle.certificate_reader.proofs.LineChoices.{chosen_read, chosen_refused}
use Rattle.certificate_reader.proofs.order_lines.read_claim.Goals as goal

pub returns-then-not-stands_at-clause-read : goal.returns-then-not-stands_at-clause-read
returns-then-not-stands_at-clause-read c = IfOk-weaker c.read_lack.result _ _ (λ f p. chosen_read 64 (as_lack c.args.known.now.leaves.kept c.args.text.now c.args.at (λ e. absurd (cc (c.stands_at.ensures.stands.1 e, c.if-not-stands_at.true)))) p) c.read_lack.ensures.read

pub returns-then-not-stands_at-clause-refused : goal.returns-then-not-stands_at-clause-refused
returns-then-not-stands_at-clause-refused c = IfErr-weaker c.read_lack.result _ _ (λ e r. chosen_refused 64 (as_lack c.args.known.now.leaves.kept c.args.text.now c.args.at (λ e. absurd (cc (c.stands_at.ensures.stands.1 e, c.if-not-stands_at.true)))) r) c.read_lack.ensures.refused

pub returns-in_ok-tree-clause-read : goal.returns-in_ok-tree-clause-read
returns-in_ok-tree-clause-read c = chosen_read 64 (as_before c.args.known.now.leaves.kept c.args.text.now c.args.at (search rules) (search rules)) c.in_ok-tree.ensures.read

pub returns-in_err-tree-clause-refused : goal.returns-in_err-tree-clause-refused
returns-in_err-tree-clause-refused c = handed_on c.from_residual.result _ _ c.from_residual.ensures.1
    (chosen_refused 64 (as_before c.args.known.now.leaves.kept c.args.text.now c.args.at (search rules) (search rules)) c.in_err-tree.ensures.refused)

pub returns-else-stands_at-clause-read : goal.returns-else-stands_at-clause-read
returns-else-stands_at-clause-read c = IfOk-weaker c.read_at_or_before.result _ _ (λ f p. chosen_read 64 (as_at_or_before c.args.known.now.leaves.kept c.args.text.now c.args.at (search rules) (search rules)) p) c.read_at_or_before.ensures.read

pub returns-else-stands_at-clause-refused : goal.returns-else-stands_at-clause-refused
returns-else-stands_at-clause-refused c = IfErr-weaker c.read_at_or_before.result _ _ (λ e r. chosen_refused 64 (as_at_or_before c.args.known.now.leaves.kept c.args.text.now c.args.at (search rules) (search rules)) r) c.read_at_or_before.ensures.refused
