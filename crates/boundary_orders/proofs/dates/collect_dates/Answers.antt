use Rattle.std.proofs.Common.{ℕ, ℤ, Option, [], ap, ◌∙◌}
use Rattle.std.specs.BTreeSet.{insert_key}
use Rattle.std.specs.List.{cons_option, fold}
use Rattle.std.specs.Ordering.{int_cmp}
use Rattle.std.proofs.lemmas.List.Elements.{All-nil, All-same}
use Rattle.boundary_orders.specs.declared.statements.Statement.{Statement}
use Rattle.boundary_orders.specs.Orders.{IsInstant, instant_of}
use Rattle.boundary_orders.proofs.Dating.{dates_grow}
use Rattle.boundary_orders.proofs.dates.collect_dates.Goals as goal

pub loop-statement-init : goal.loop-statement-init
loop-statement-init c = record {
  dates = c.new-found.ensures.empty;
  instants = All-same IsInstant c.new-found.result.keys [] c.new-found.ensures.empty (All-nil IsInstant);
}

pub loop-statement-preserved : goal.loop-statement-preserved
loop-statement-preserved c = record {
  dates =
      dates_grow c.args.names.now c.as_slice-statement-items.result.now c.args.statements.now c.loop-statement.statement-index c.statement-item.result
      c.loop-statement.found.keys c.add_date.new.found.keys c.as_slice-statement-items.ensures c.loop-statement-test.true c.loop-statement.invariant.dates
      (c.in_ok-add_date.ensures.keys
      ∙ ap (λ (t : Option ℤ). fold (insert_key int_cmp) c.loop-statement.found.keys (cons_option t [])) c.date_in.ensures.value
      ∙ ap (λ (s : ℕ × Statement). fold (insert_key int_cmp) c.loop-statement.found.keys (cons_option (instant_of c.args.names.now s.1) [])) c.statement-item.is);
  instants = c.in_ok-add_date.ensures.instants c.loop-statement.invariant.instants;
}
