use Rattle.std.proofs.Common.{arith, subst, ap, ◌∙◌}
use Rattle.order_laws.specs.Chains.{HasCycle}
use Rattle.order_laws.proofs.Hold.{cycle_refutes}
use Rattle.order_core.specs.Sets.{Orders}
use Rattle.order_extension.specs.Extended.{extended}
use Rattle.crm_allen.proofs.InRange.{relation_in_range, relation_is_short}
use Rattle.crm_allen.proofs.examples.example.Goals as goal

pub with_orders-requires-clause-few : goal.with_orders-requires-clause-few
with_orders-requires-clause-few c = rw c.in_ok-more.ensures (omega (arith, relation_is_short c.args.r c.args.a c.args.b, c.requires.few))

pub with_orders-requires-clause-in_range : goal.with_orders-requires-clause-in_range
with_orders-requires-clause-in_range c = rw c.in_ok-more.ensures (relation_in_range _ _ c.args.r c.args.a c.args.b c.requires.a_in_range c.requires.b_in_range)

pub plain-requires-clause-consistent : goal.plain-requires-clause-consistent
plain-requires-clause-consistent c = λ cycle.
    cycle_refutes _ _ _ (subst (λ (s : Orders). HasCycle s.list) (c.in_ok-related.ensures ∙ ap (extended c.args.set.now) c.in_ok-more.ensures) cycle) c.requires.possible
