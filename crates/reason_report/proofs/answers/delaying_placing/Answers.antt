use Rattle.std.proofs.Common.{◌≡◌, IfOk, List, subst}
use Rattle.order_laws.specs.declared.Position.{Position}
use Rattle.order_laws.specs.Wider as wider
use Rattle.order_core.specs.Sets.{Orders}
use Rattle.reason_report.proofs.answers.delaying_placing.Goals as goal

pub returns : goal.returns
returns c =
    subst (λ (s : Orders). IfOk c.delaying.result (λ (p : List Position). p ≡ wider.delaying_placing s.list s.extents s.dates c.args.x)) c.set.ensures c.delaying.ensures
