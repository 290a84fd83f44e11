use Rattle.std.proofs.Common.{◌≡◌, ◌++◌, ℕ, List, None, [], ◌∷◌, sym, ap, ◌∙◌}
use Rattle.std.specs.Option.{option_map}
use Rattle.crm_type_check.specs.declared.Fault.{Fault}
use Rattle.boundary_orders.specs.declared.statements.Statement.{Statement}
use Rattle.boundary_orders.specs.Statements as spec
use Rattle.boundary_orders.proofs.Growing.{filter_map_none, filter_map_some}
use Rattle.boundary_orders.proofs.statements.find_statements.Goals as goal

pub loop-number-preserved-in-Continue-1 : goal.loop-number-preserved-in-Continue-1
loop-number-preserved-in-Continue-1 c = λ faults index faulty.
    c.in_ok-push.ensures.ok
    ∙ ap (λ (xs : List (ℕ × Statement)). xs ++ (c.in-Some.number, c.in-Some-fault_free_statement.statement) ∷ []) (c.loop-number.invariant faults index faulty)
    ∙ filter_map_some (spec.statement_of c.args.names.now c.args.pool.now.pairs faults) c.loop-number.yielded (c.in-Some.number, c.in-Some.triple)
    (c.in-Some.number, c.in-Some-fault_free_statement.statement)
    (sym (c.fault_free_statement.ensures c.args.pool.now.pairs faults index faulty)
    ∙ ap (option_map (λ (s : Statement). (c.in-Some.number, s))) c.in-Some-fault_free_statement.is)

pub loop-number-preserved : goal.loop-number-preserved
loop-number-preserved c = λ faults index faulty.
    c.loop-number.invariant faults index faulty
    ∙ filter_map_none (spec.statement_of c.args.names.now c.args.pool.now.pairs faults) c.loop-number.yielded (c.in-Some.number, c.in-Some.triple)
    (none faults (c.fault_free_statement.ensures c.args.pool.now.pairs faults index faulty))
  where
    none : (faults : List Fault) → option_map (λ (s : Statement). (c.in-Some.number, s)) c.fault_free_statement.result
        ≡ spec.statement_of c.args.names.now c.args.pool.now.pairs faults (c.in-Some.number, c.in-Some.triple) →
        spec.statement_of c.args.names.now c.args.pool.now.pairs faults (c.in-Some.number, c.in-Some.triple) ≡ None
    none faults e = sym e ∙ ap (option_map (λ (s : Statement). (c.in-Some.number, s))) c.in_default.is
