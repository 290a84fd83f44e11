use Rattle.certificate_reader.proofs.Positions.{positions_more}
use Rattle.certificate_reader.proofs.PositionReads.{one_more, position_refused, all_whole}
use Rattle.certificate_trees.proofs.Steps.{handed_on}
use Rattle.certificate_reader.proofs.order_lines.read_positions.Goals as goal

pub positions-preserved : goal.positions-preserved
positions-preserved c = rw c.in_ok-push.ensures.ok (
  positions_more c.args.text.now c.args.at c.positions.to c.in_ok-position.position.to c.positions.value c.in_ok-position.position.value
      c.positions.invariant.0 (c.stands_at.ensures.stands.0 c.positions-test.true) c.in_ok-position.ensures.read,
  one_more c.args.text.now c.args.at c.positions.to c.in_ok-position.position.to c.positions.invariant.1 (c.stands_at.ensures.stands.0 c.positions-test.true) c.in_ok-position.ensures.whole,
)

pub returns-in_err-position-clause-refused : goal.returns-in_err-position-clause-refused
returns-in_err-position-clause-refused c = handed_on c.from_residual.result _ _ c.from_residual.ensures.1
    (position_refused c.args.text.now c.args.at c.positions.to _ c.positions.invariant.1 (c.stands_at.ensures.stands.0 c.positions-test.true) c.in_err-position.ensures.refused)

pub returns-clause-whole : goal.returns-clause-whole
returns-clause-whole c = all_whole c.args.text.now c.args.at c.positions.to c.positions.invariant.1 (λ e. absurd (cc (c.stands_at.ensures.stands.1 e, c.positions-test.false)))
