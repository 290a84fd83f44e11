use Rattle.std.proofs.Common.{None}
use Rattle.certificate_trees.proofs.Steps.{both, handed_on, here, later}
use Rattle.certificate_reader.proofs.OrderForms.{instant_rank, slash_rank}
use Rattle.certificate_reader.proofs.order_lines.read_position.Goals as goal

pub returns-in_err-instant-clause-refused : goal.returns-in_err-instant-clause-refused
returns-in_err-instant-clause-refused c = handed_on c.from_residual.result _ _ c.from_residual.ensures.1
    (here instant_rank None _ _ _ c.in_err-instant.ensures.refused)

pub returns-in_err-behind-clause-refused : goal.returns-in_err-behind-clause-refused
returns-in_err-behind-clause-refused c = handed_on c.from_residual-in_err-behind.result _ _ c.from_residual-in_err-behind.ensures.1
    (later instant_rank None _ c.in_ok-instant.ensures.whole (here slash_rank None _ _ _ c.in_err-behind.ensures.refused))

pub returns-in_err-rank-clause-refused : goal.returns-in_err-rank-clause-refused
returns-in_err-rank-clause-refused c = handed_on c.from_residual-in_err-rank.result _ _ c.from_residual-in_err-rank.ensures.1
    (later instant_rank None _ c.in_ok-instant.ensures.whole (later slash_rank None _ c.in_ok-behind.ensures.whole c.in_err-rank.ensures.refused))

pub returns-clause-whole : goal.returns-clause-whole
returns-clause-whole c = both instant_rank c.in_ok-instant.ensures.whole (both slash_rank c.in_ok-behind.ensures.whole c.in_ok-rank.ensures.whole)
