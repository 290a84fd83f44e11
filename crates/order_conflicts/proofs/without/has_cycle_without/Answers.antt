use Rattle.std.proofs.lemmas.Result.{IfOk-weaker}
use Rattle.order_conflicts.proofs.Kept.{loop_told}
use Rattle.order_conflicts.proofs.without.has_cycle_without.Goals as goal

pub returns : goal.returns
returns c = IfOk-weaker c.find_return.result _ _ (λ b e. loop_told c.args.set.now c.args.triple c.conditions.ensures.orders b e) c.find_return.ensures
