use Rattle.std.proofs.Common.{◌≡◌, List, [], ◌∷◌, length, ap, sym, ◌∙◌, subst}
use Rattle.order_laws.specs.declared.Order.{Order}
use Rattle.order_laws.specs.declared.Position.{Position}
use Rattle.order_laws.specs.Closure.{reach_between}
use Rattle.order_laws.specs.Tables.{IsPoint}
use Rattle.dating_bounds.specs.declared.moments.During.{During}
use Rattle.dating_bounds.specs.declared.moments.During.TheVariants.{Maybe}
use Rattle.dating_bounds.specs.Moment.{inside_orders, outside_order, plain_with}
use Rattle.dating_bounds.specs.Pushed.{IsPush}
use Rattle.dating_bounds.proofs.Insides.{inside_once, inside_push, outside_push, inside_low_in, inside_high_in, outside_low_in, outside_high_in}
use Rattle.dating_bounds.proofs.moments.maybe.Goals as goal

pub with_order-requires-clause-low : goal.with_order-requires-clause-low
with_order-requires-clause-low c =
    subst (λ (o : Order). IsPoint c.args.shares.now.extents (length c.args.shares.now.dates) o.low) (sym c.inside_order.ensures)
    (inside_low_in (reach_between c.args.shares.now.list) c.args.shares.now.extents (length c.args.shares.now.dates) c.args.date c.args.k c.requires.date c.requires.extent)

pub with_order-requires-clause-high : goal.with_order-requires-clause-high
with_order-requires-clause-high c =
    subst (λ (o : Order). IsPoint c.args.shares.now.extents (length c.args.shares.now.dates) o.high) (sym c.inside_order.ensures)
    (inside_high_in (reach_between c.args.shares.now.list) c.args.shares.now.extents (length c.args.shares.now.dates) c.args.date c.args.k c.requires.date c.requires.extent)

pub with_order-requires-clause-push : goal.with_order-requires-clause-push
with_order-requires-clause-push c =
    subst (IsPush (reach_between c.args.shares.now.list) c.args.date) (sym c.inside_order.ensures)
    (inside_push c.args.shares.now c.conditions.ensures.orders c.conditions.ensures.consistent c.args.date c.args.k c.requires.date c.requires.extent c.requires.possible)

pub with_order-requires-2-clause-low : goal.with_order-requires-2-clause-low
with_order-requires-2-clause-low c =
    subst (λ (o : Order). IsPoint c.args.shares.now.extents (length c.args.shares.now.dates) o.low) (sym c.outside_order.ensures)
    (outside_low_in (reach_between c.args.shares.now.list) c.args.shares.now.extents (length c.args.shares.now.dates) c.args.date c.args.k c.requires.date c.requires.extent)

pub with_order-requires-2-clause-high : goal.with_order-requires-2-clause-high
with_order-requires-2-clause-high c =
    subst (λ (o : Order). IsPoint c.args.shares.now.extents (length c.args.shares.now.dates) o.high) (sym c.outside_order.ensures)
    (outside_high_in (reach_between c.args.shares.now.list) c.args.shares.now.extents (length c.args.shares.now.dates) c.args.date c.args.k c.requires.date c.requires.extent)

pub with_order-requires-2-clause-push : goal.with_order-requires-2-clause-push
with_order-requires-2-clause-push c =
    subst (IsPush (reach_between c.args.shares.now.list) c.args.date) (sym c.outside_order.ensures)
    (outside_push c.args.shares.now c.conditions.ensures.orders c.conditions.ensures.consistent c.args.date c.args.k c.requires.date c.requires.extent c.requires.unsure)

pub returns : goal.returns
returns c =
    let inside : c.in_ok-inside.inside ≡ plain_with c.args.shares.now (inside_orders c.args.date c.args.k) =
    c.in_ok-inside.ensures ∙ ap (λ (o : Order). plain_with c.args.shares.now (o ∷ [])) c.inside_order.ensures
    ∙ sym (inside_once c.args.shares.now c.conditions.ensures.orders c.conditions.ensures.consistent c.args.date c.args.k c.requires.date c.requires.extent c.requires.possible) in
    let outside : c.in_ok-outside.outside ≡ plain_with c.args.shares.now (outside_order (reach_between c.args.shares.now.list) c.args.date c.args.k ∷ []) =
    c.in_ok-outside.ensures ∙ ap (λ (o : Order). plain_with c.args.shares.now (o ∷ [])) c.outside_order.ensures in
    ap {B = During} (λ (p : List Position). Maybe p c.in_ok-outside.outside) inside
    ∙ ap {B = During} (λ (p : List Position). Maybe (plain_with c.args.shares.now (inside_orders c.args.date c.args.k)) p) outside
