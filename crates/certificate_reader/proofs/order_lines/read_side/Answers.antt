use Rattle.std.proofs.Common.{◌+◌, [], ◌∷◌}
use Rattle.certificate_trees.proofs.Pieces.{byte_read, then_read}
use Rattle.certificate_trees.proofs.Steps.{handed_on}
use Rattle.certificate_reader.proofs.SideReads.{start_end, no_start_start, no_end, end_start_behind, no_end_end_behind}
use Rattle.certificate_reader.proofs.order_lines.read_side.Goals as goal

pub returns-then-stands_at-2-clause-whole : goal.returns-then-stands_at-2-clause-whole
returns-then-stands_at-2-clause-whole c = start_end c.args.text.now c.args.at (c.stands_at.ensures.stands.0 c.if-stands_at.true) (c.stands_at-then-stands_at.ensures.stands.0 c.if-stands_at-2.true)

pub returns-in_err-to-clause-refused : goal.returns-in_err-to-clause-refused
returns-in_err-to-clause-refused c = handed_on c.from_residual.result _ _ c.from_residual.ensures.1
    (no_start_start c.args.text.now c.args.at (c.stands_at.ensures.stands.0 c.if-stands_at.true) (λ e. absurd (cc (c.stands_at-then-stands_at.ensures.stands.1 e, c.if-stands_at-2.false))) _ c.in_err-to.ensures.refused)

pub returns-in_err-behind-clause-refused : goal.returns-in_err-behind-clause-refused
returns-in_err-behind-clause-refused c = handed_on c.from_residual-in_err-behind.result _ _ c.from_residual-in_err-behind.ensures.1
    (no_end c.args.text.now c.args.at (λ e. absurd (cc (c.stands_at.ensures.stands.1 e, c.if-stands_at.false))) _ c.in_err-behind.ensures.refused)

pub returns-then-stands_at-3-clause-read : goal.returns-then-stands_at-3-clause-read
returns-then-stands_at-3-clause-read c = then_read c.args.text.now c.args.at c.in_ok-behind.behind (c.in_ok-behind.behind + 1) (101 ∷ []) (115 ∷ []) c.in_ok-behind.ensures.read
    (byte_read c.args.text.now c.in_ok-behind.behind 115 (c.stands_at-2.ensures.stands.0 c.if-stands_at-3.true))

pub returns-then-stands_at-3-clause-whole : goal.returns-then-stands_at-3-clause-whole
returns-then-stands_at-3-clause-whole c = end_start_behind c.args.text.now c.args.at c.in_ok-behind.behind c.in_ok-behind.ensures.moves c.in_ok-behind.ensures.read (c.stands_at-2.ensures.stands.0 c.if-stands_at-3.true)

pub returns-in_err-to-2-clause-refused : goal.returns-in_err-to-2-clause-refused
returns-in_err-to-2-clause-refused c = handed_on c.from_residual-in_err-to-2.result _ _ c.from_residual-in_err-to-2.ensures.1
    (no_end_end_behind c.args.text.now c.args.at c.in_ok-behind.behind c.in_ok-behind.ensures.moves c.in_ok-behind.ensures.read
    (λ e. absurd (cc (c.stands_at-2.ensures.stands.1 e, c.if-stands_at-3.false))) _ c.in_err-to-2.ensures.refused)
