use Rattle.std.proofs.Common.{List, length}
use Rattle.order_laws.specs.declared.Order.{Order}
use Rattle.order_laws.specs.Closure.{reach_between}
use Rattle.order_laws.specs.Tables.{IsBase, IsOrderly}
use Rattle.harris_matrix.proofs.Standing.{rows_order}
use Rattle.harris_matrix.proofs.matrix.order_rows.Goals as goal

pub returns-clause-orderly : goal.returns-clause-orderly
returns-clause-orderly c =
    let orders : List Order = c.args.set.now.list in
    let base : IsBase orders c.args.set.now.extents (length c.args.set.now.dates) (reach_between orders) = record {
      strictly = λ x y _ _. c.closure_is_what_follows.ensures.strictly orders x y;
      known = λ x y _ _. c.closure_is_what_follows.ensures.known orders x y;
    } in
    let orderly : IsOrderly orders c.args.set.now.extents (length c.args.set.now.dates) (reach_between orders) =
    c.base_is_orderly.ensures orders c.args.set.now.extents c.args.set.now.dates (reach_between orders) c.conditions.ensures.orders c.requires.consistent base in
    rows_order orders c.args.set.now.extents c.args.set.now.dates (reach_between orders) c.conditions.ensures.orders orderly
    _ _ c.args.least.now c.in_ok-rows.ensures.count c.in_ok-rows.ensures.marked c.requires.least
