use Rattle.std.proofs.Common.{◌≡◌, ℕ, ℤ, List, length, sym, ap, subst, ◌∙◌, arith}
use Rattle.order_laws.specs.declared.Order.{Order}
use Rattle.order_core.specs.Sets.{Orders, AreInRange}
use Rattle.boundary_orders.specs.Orders.{dates_of, statement_orders}
use Rattle.boundary_orders.proofs.Counting.{dates_few, orders_few}
use Rattle.boundary_orders.proofs.Finding.{completed_count}
use Rattle.boundary_orders.proofs.Holding.{ascends}
use Rattle.boundary_orders.proofs.Pointing.{points_in_range}
use Rattle.boundary_orders.proofs.dossier.arrange.Goals as goal

pub overflow_cast-date_count : goal.overflow_cast-date_count
overflow_cast-date_count c =
    omega (arith, ap length c.in_ok-dates.ensures.dates, dates_few c.args.names.now c.args.statements.now, c.requires.few_statements, c.len-date_count.ensures)

pub overflow_cast-order_count : goal.overflow_cast-order_count
overflow_cast-order_count c =
    omega (
      arith,
      ap length c.in_ok-list.ensures,
      orders_few c.args.names.now c.args.extents.entries c.as_slice.result.now c.args.statements.now,
      c.requires.few_statements,
      c.len.ensures,
    )

pub overflow_add-order_count : goal.overflow_add-order_count
overflow_add-order_count c =
    omega (
      arith,
      ap length c.in_ok-list.ensures,
      orders_few c.args.names.now c.args.extents.entries c.as_slice.result.now c.args.statements.now,
      c.requires.few_statements,
      c.len.ensures,
      c.if-extent_count-gt-EXTENT_LIMIT.false,
    )

pub overflow_add-order_count-2 : goal.overflow_add-order_count-2
overflow_add-order_count-2 c =
    omega (
      arith,
      ap length c.in_ok-list.ensures,
      orders_few c.args.names.now c.args.extents.entries c.as_slice.result.now c.args.statements.now,
      c.requires.few_statements,
      c.len.ensures,
      c.if-extent_count-gt-EXTENT_LIMIT.false,
      c.if-date_count-gt-DATE_LIMIT.false,
      c.saturating_sub.ensures,
    )

pub returns-then-order_count-gt-ORDER_LIMIT-clause-err : goal.returns-then-order_count-gt-ORDER_LIMIT-clause-err
returns-then-order_count-gt-ORDER_LIMIT-clause-err c =
    let dates : length c.in_ok-dates.dates ≡ length (dates_of c.args.names.now c.args.statements.now) = ap length c.in_ok-dates.ensures.dates in
    let list : length c.in_ok-list.list
    ≡ length (statement_orders c.args.names.now c.args.extents.entries (dates_of c.args.names.now c.args.statements.now) c.args.statements.now)
    = ap length (c.in_ok-list.ensures
    ∙ ap (λ (ds : List ℤ). statement_orders c.args.names.now c.args.extents.entries ds c.args.statements.now) (c.as_slice.ensures ∙ c.in_ok-dates.ensures.dates)) in
    let count = completed_count (length c.args.extents.entries) (length (dates_of c.args.names.now c.args.statements.now))
    (statement_orders c.args.names.now c.args.extents.entries (dates_of c.args.names.now c.args.statements.now) c.args.statements.now) in (
      omega (arith, c.len-extent_count.ensures.len, c.if-extent_count-gt-EXTENT_LIMIT.false),
      omega (arith, dates, c.len-date_count.ensures, c.if-date_count-gt-DATE_LIMIT.false),
      omega (arith, count, list, dates, c.len.ensures, c.len-extent_count.ensures.len, c.len-date_count.ensures, c.saturating_sub.ensures),
      c.if-order_count-gt-ORDER_LIMIT.true,
    )

pub completed_set-requires-clause-ascending : goal.completed_set-requires-clause-ascending
completed_set-requires-clause-ascending c = ascends c.in_ok-dates.dates c.in_ok-dates.ensures.ascending

pub completed_set-requires-clause-in_range : goal.completed_set-requires-clause-in_range
completed_set-requires-clause-in_range c =
    subst (λ (n : ℕ). AreInRange n (length c.in_ok-dates.dates) c.in_ok-list.list) (sym c.len-extent_count.ensures.len)
    (subst (λ (m : ℕ). AreInRange (length c.args.extents.entries) m c.in_ok-list.list) (sym (ap length c.in_ok-dates.ensures.dates))
    (subst (λ (l : List Order). AreInRange (length c.args.extents.entries) (length (dates_of c.args.names.now c.args.statements.now)) l)
    (sym (c.in_ok-list.ensures
    ∙ ap (λ (ds : List ℤ). statement_orders c.args.names.now c.args.extents.entries ds c.args.statements.now) (c.as_slice.ensures ∙ c.in_ok-dates.ensures.dates)))
    (points_in_range c.args.names.now c.args.extents.entries c.args.statements.now c.requires.numbered)))

pub returns-clause-few : goal.returns-clause-few
returns-clause-few c =
    let orders = ap (λ (o : Orders). length o.list) c.in_ok-orders.ensures in
    let dates = ap (λ (o : Orders). length o.dates) c.in_ok-orders.ensures in
    let count = completed_count c.len-extent_count.result (length c.in_ok-dates.dates) c.in_ok-list.list in
    record {
      extents = omega (arith, c.len-extent_count.ensures.len, c.if-extent_count-gt-EXTENT_LIMIT.false);
      dates = omega (arith, dates, c.len-date_count.ensures, c.if-date_count-gt-DATE_LIMIT.false);
      orders = omega (arith, orders, count, c.len.ensures, c.len-date_count.ensures, c.saturating_sub.ensures, c.if-order_count-gt-ORDER_LIMIT.false);
    }
