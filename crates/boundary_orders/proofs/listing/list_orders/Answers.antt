use Rattle.std.proofs.Common.{ℕ, ℤ, ◌≡◌, ◌<◌, ◌++◌, true, List, get_or, length, sym, ap, subst, ◌∙◌, arith}
use Rattle.boundary_orders.specs.declared.statements.Statement.{Statement}
use Rattle.boundary_orders.specs.Orders.{instant_of, dates_of, is_held, orders_by}
use Rattle.boundary_orders.proofs.Growing.{pieces_grow}
use Rattle.boundary_orders.proofs.Holding.{dates_hold}
use Rattle.boundary_orders.proofs.listing.list_orders.Goals as goal

pub loop-statement-preserved : goal.loop-statement-preserved
loop-statement-preserved c =
    pieces_grow (orders_by c.args.names.now c.args.extents.now.entries c.args.dates.now) c.as_slice-statement-items.result.now c.args.statements.now
    c.loop-statement.statement-index c.statement-item.result c.loop-statement.list c.list_statement.new.list c.as_slice-statement-items.ensures
    c.loop-statement-test.true c.loop-statement.invariant
    (c.in_ok-list_statement.ensures
    ∙ ap (λ (s : ℕ × Statement). c.loop-statement.list ++ orders_by c.args.names.now c.args.extents.now.entries c.args.dates.now s) c.statement-item.is)

pub list_statement-requires-clause-held : goal.list_statement-requires-clause-held
list_statement-requires-clause-held c =
    let within : c.loop-statement.statement-index < length c.args.statements.now
    = omega (arith, ap length c.as_slice-statement-items.ensures, c.loop-statement-test.true) in
    subst (λ (ds : List ℤ). is_held ds (instant_of c.args.names.now c.statement-item.result.1) ≡ true) (sym c.requires.dates)
    (subst (λ (s : ℕ × Statement). is_held (dates_of c.args.names.now c.args.statements.now) (instant_of c.args.names.now s.1) ≡ true)
    (sym (c.statement-item.is
    ∙ ap (λ (xs : List (ℕ × Statement)). get_or xs c.loop-statement.statement-index c.statement-item.result) c.as_slice-statement-items.ensures))
    (dates_hold c.args.names.now c.args.statements.now c.loop-statement.statement-index c.statement-item.result within))
